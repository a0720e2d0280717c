-- A log that is changed byte by byte.
use Rattle.std.proofs.Common.{◌≡◌, ℕ, suc, ◌+◌, ◌-◌, ◌<◌, ◌≤◌, List, [], ◌∷◌, ◌++◌, length, take, drop, get_or, refl, sym}
use Rattle.std.proofs.Common.{ap, subst, ◌∙◌, arith}
use Rattle.std.proofs.Math.Seq.{paste, paste-suc}
use Rattle.std.specs.Prelude.{slice_set}
use Rattle.std.proofs.lemmas.List.{append_assoc, length-set, drop-drop, drop-set-lt, get_or-drop}
use Rattle.std.proofs.lemmas.List.{take_all}
use Rattle.rq_behind.specs.Mending.{AreTold, IsChanged, with_changes, written}
use Rattle.rq_behind.specs.declared.changes.Change.{Change}

-- one byte more is put in place
changes_push : (log : List ℕ) (cs : List Change) (c : Change)
    → with_changes log (cs ++ c ∷ []) ≡ slice_set (with_changes log cs) c.offset c.now
changes_push log [] c = refl
changes_push log (x ∷ xs) c = changes_push (slice_set log x.offset x.now) xs c

-- what is told from a later offset on is told from an earlier one on
pub told_before : (log : List ℕ) (at later : ℕ) (cs : List Change) → at ≤ later → AreTold log later cs → AreTold log at cs
told_before log at later [] low told = told
told_before log at later (c ∷ cs) low told = (omega (arith, told.0), told.1, told.2, told.3, told.4)

-- what stands behind a later offset is decided by what stands behind an earlier one
pub behind_later : (b log : List ℕ) (at later : ℕ) → at ≤ later → drop at b ≡ drop at log → drop later b ≡ drop later log
behind_later b log at later low same =
    let place : at + (later - at) ≡ later = omega arith in
    ap (λ (k : ℕ). drop k b) (sym place) ∙ sym (drop-drop (later - at) at b) ∙ ap (drop (later - at)) same
    ∙ drop-drop (later - at) at log ∙ ap (λ (k : ℕ). drop k log) place

-- nothing is changed between two offsets
pub changed_later : (log : List ℕ) (from : ℕ) (b : List ℕ) (cs : List Change) (at later : ℕ) → at ≤ later
    → IsChanged log from b cs at → IsChanged log from b cs later
changed_later log from b cs at later low changed = record {
  same = changed.same;
  told = λ rest told. changed.told rest (told_before log at later rest low told);
  size = changed.size;
  behind = behind_later b log at later low changed.behind;
}

-- one byte is changed
changed_more : (log : List ℕ) (from : ℕ) (b : List ℕ) (cs : List Change) (at : ℕ) (c : Change) → c.offset ≡ at
    → at < length b → c.was ≡ get_or b at 0 → (c.was ≡ c.now → ⊥) → IsChanged log from b cs at
    → IsChanged log from (slice_set b at c.now) (cs ++ c ∷ []) (at + 1)
changed_more log from b cs at c place low was other changed =
    let size : length (slice_set b at c.now) ≡ length b = length-set b at c.now in
    let stood : c.was ≡ get_or log c.offset 0 =
    was ∙ sym (get_or-drop at b 0 0 ∙ ap (λ (k : ℕ). get_or b k 0) (omega arith))
    ∙ ap (λ (x : List ℕ). get_or x 0 0) changed.behind
    ∙ get_or-drop at log 0 0 ∙ ap (λ (k : ℕ). get_or log k 0) (omega (arith, place)) in
    record {
      same = ap (λ (x : List ℕ). slice_set x at c.now) changed.same
          ∙ ap (λ (k : ℕ). slice_set (with_changes log cs) k c.now) (sym place) ∙ sym (changes_push log cs c);
      told = λ rest told. subst (AreTold log from) (sym (append_assoc cs (c ∷ []) rest))
          (changed.told (c ∷ rest) (
            omega (arith, place),
            omega (arith, place, low, changed.size),
            stood,
            other,
            subst (λ (k : ℕ). AreTold log k rest) (omega (arith, place)) told,
          ));
      size = size ∙ changed.size;
      behind =
          let off : drop (at + 1) (slice_set b at c.now) ≡ drop (at + 1) b = drop-set-lt (at + 1) b at c.now (omega arith) in
          off ∙ behind_later b log at (at + 1) (omega arith) changed.behind;
    }

-- all bytes are put in their places
pub paste_all : (b : List ℕ) (offset n : ℕ) (now : List ℕ) → length now ≡ n → paste b offset now n ≡ written b offset now
paste_all b offset n now size =
    ap (λ (k : ℕ). paste b offset now k) (sym size)
    ∙ ap (λ (x : List ℕ). take offset b ++ x ++ drop (offset + length now) b) (take_all (length now) now (omega arith))

-- one byte more is put in its place
pub paste_next : (b mid new : List ℕ) (offset k v : ℕ) (now : List ℕ) → v ≡ get_or now k 0 → mid ≡ paste b offset now k
    → new ≡ slice_set mid (offset + k) v → offset + k < length b → k < length now → new ≡ paste b offset now (k + 1)
paste_next b mid new offset k v now value before set within low =
    let next : suc k ≡ k + 1 = omega arith in
    set ∙ ap (λ (x : List ℕ). slice_set x (offset + k) v) before ∙ ap (slice_set (paste b offset now k) (offset + k)) value
    ∙ paste-suc b offset now k 0 within low ∙ ap (paste b offset now) next

-- one byte is changed, and told
pub changed_one : (b new : List ℕ) (cs told : List Change) (c : Change) → new ≡ slice_set b c.offset c.now
    → told ≡ cs ++ c ∷ [] → c.was ≡ get_or b c.offset 0 → c.offset < length b → (c.was ≡ c.now → ⊥)
    → (log : List ℕ) (from : ℕ) → IsChanged log from b cs c.offset → IsChanged log from new told (c.offset + 1)
changed_one b new cs told c set items was within other log from changed =
    subst (λ (x : List ℕ). IsChanged log from x told (c.offset + 1)) (sym set)
    (subst (λ (xs : List Change). IsChanged log from (slice_set b c.offset c.now) xs (c.offset + 1)) (sym items)
    (changed_more log from b cs c.offset c refl within was other changed))
