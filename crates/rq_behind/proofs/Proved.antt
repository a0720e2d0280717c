-- What a digest proves: it stays so, whatever is changed behind its frame.
use Rattle.std.proofs.Common.{◌≡◌, ℕ, ◌+◌, ◌-◌, ◌<◌, ◌≤◌, List, ◌++◌, length, take, drop, get_or, Option, Some, None, sym, inl, inr}
use Rattle.std.proofs.Common.{ap, subst, ◌∙◌, arith}
use Rattle.std.specs.Prelude.{All, MatchOption}
use Rattle.std.proofs.Math.Seq.{paste, drop-paste, length-paste, take_at, take-add}
use Rattle.std.proofs.lemmas.List.{append_assoc, length-drop, length-take-le, drop-drop, drop-take, take-take, take_all, take-append-drop}
use Rattle.byteorder.specs.Numbers.{big_from-take}
use Rattle.rq_model.specs.Frames.{IsBodyLength, before, body_in, digest, digest_in, stated}
use Rattle.rq_front.specs.Chains.{IsHeaded}
use Rattle.rq_behind.specs.Runs.{IsRightAt, frame_end}
use Rattle.rq_behind.specs.Mending.{AreProved, AreProvedBefore, Covers, IsProvedBy, Proves, digest_place, written}
use Rattle.rq_behind.specs.declared.changes.Change.{Change}
use Rattle.rq_behind.proofs.Changed.{behind_later}

-- a part before an offset
same_part : (b c : List ℕ) (at i n : ℕ) → take at b ≡ take at c → i + n ≤ at → take n (drop i b) ≡ take n (drop i c)
same_part b c at i n same low =
    sym (drop-take i n b)
    ∙ ap (drop i) (sym (take-take (i + n) at b low) ∙ ap (take (i + n)) same ∙ take-take (i + n) at c low)
    ∙ drop-take i n c

same_stated : (b c : List ℕ) (at p : ℕ) → take at b ≡ take at c → p + 4 ≤ at → stated (drop p b) ≡ stated (drop p c)
same_stated b c at p same low =
    sym (big_from-take 0 4 4 (drop p b) (omega arith)) ∙ ap stated (same_part b c at p 4 same low)
    ∙ big_from-take 0 4 4 (drop p c) (omega arith)

same_body : (b c : List ℕ) (at p : ℕ) → take at b ≡ take at c → frame_end b p ≤ at → body_in (drop p b) ≡ body_in (drop p c)
same_body b c at p same low =
    ap (take (stated (drop p b))) (drop-drop 4 p b)
    ∙ same_part b c at (p + 4) (stated (drop p b)) same (omega (arith, low))
    ∙ ap (λ (n : ℕ). take n (drop (p + 4) c)) (same_stated b c at p same (omega (arith, low)))
    ∙ ap (take (stated (drop p c))) (sym (drop-drop 4 p c))

same_digest : (b c : List ℕ) (at p : ℕ) → take at b ≡ take at c → frame_end b p ≤ at → digest_in (drop p b) ≡ digest_in (drop p c)
same_digest b c at p same low =
    ap (take 32) (drop-drop (4 + stated (drop p b)) p b)
    ∙ same_part b c at (digest_place b p) 32 same (omega (arith, low))
    ∙ ap (λ (n : ℕ). take 32 (drop (p + (4 + n)) c)) (same_stated b c at p same (omega (arith, low)))
    ∙ ap (take 32) (sym (drop-drop (4 + stated (drop p c)) p c))

-- a frame before an offset stays right
right_still : (b c : List ℕ) (at p : ℕ) → take at b ≡ take at c → length b ≡ length c → frame_end b p ≤ at
    → IsRightAt b p → IsRightAt c p
right_still b c at p same size low right =
    let len = same_stated b c at p same (omega (arith, low)) in
    let link : before p b ≡ before p c = same_part b c at (p - 32) 32 same (omega (arith, low)) in
    record {
      whole = record {
        in_range = subst IsBodyLength len right.whole.in_range;
        room = omega (arith, right.whole.room, len, size, length-drop p b, length-drop p c);
      };
      right = sym (same_digest b c at p same low) ∙ right.right ∙ ap (λ (x : List ℕ). digest x (body_in (drop p b))) link
          ∙ ap (digest (before p c)) (same_body b c at p same low);
    }

headed_still : (b c : List ℕ) (at : ℕ) → take at b ≡ take at c → 40 ≤ at → IsHeaded b → IsHeaded c
headed_still b c at same low headed =
    (headed.0, sym (take-take 40 at c low) ∙ ap (take 40) (sym same) ∙ take-take 40 at b low ∙ headed.1)

covers_still : (b c : List ℕ) (at p offset : ℕ) → take at b ≡ take at c → frame_end b p ≤ at → Covers b p offset
    → Covers c p offset
covers_still b c at p offset same low covers =
    elim covers [ inl h ↦ inl h | inr h ↦ inr (h.0, headed_still b c at same (omega (arith, low, h.0)) h.1) ]

proved_still : (log b c : List ℕ) (at p offset : ℕ) → take at b ≡ take at c → length b ≡ length c → frame_end b p ≤ at
    → IsProvedBy log b p offset → IsProvedBy log c p offset × (frame_end c p ≤ at)
proved_still log b c at p offset same size low proved =
    let len = same_stated b c at p same (omega (arith, low)) in
    let place : digest_place b p ≡ digest_place c p = ap (λ (n : ℕ). p + (4 + n)) len in (
      record {
        right = right_still b c at p same size low proved.right;
        covered = covers_still b c at p offset same low proved.covered;
        before = subst (λ (n : ℕ). offset < n) place proved.before;
        kept = sym (same_digest b c at p same low) ∙ proved.kept ∙ ap (λ (n : ℕ). take 32 (drop n log)) place;
      },
      subst (λ (n : ℕ). p + (36 + n) ≤ at) len low,
    )

-- all that was proved stays so, if what stands before stays
pub all_still : (log b c : List ℕ) (cs : List Change) (at later : ℕ) → take at b ≡ take at c → length b ≡ length c → at ≤ later
    → AreProvedBefore log b cs at → AreProvedBefore log c cs later
all_still log b c cs at later same size low proved = λ k d lt.
    let was = proved k d lt in
    let still = proved_still log b c at _ _ same size was.1 was.0 in (still.0, omega (arith, still.1, low))

-- bytes that are written leave what stands before them
pub written_before : (b : List ℕ) (offset at : ℕ) (now : List ℕ) → at ≤ offset → offset ≤ length b
    → take at b ≡ take at (written b offset now)
written_before b offset at now low within =
    let rest = now ++ drop (offset + length now) b in
    let parts : written b offset now ≡ take offset b ++ rest = append_assoc (take offset b) now (drop (offset + length now) b) in
    let front : take offset (written b offset now) ≡ take offset b =
    ap (take offset) parts ∙ take_at (take offset b) rest offset (length-take-le offset b within) in
    sym (take-take at offset b low) ∙ ap (take at) (sym front) ∙ take-take at offset (written b offset now) low

pub length_written : (b : List ℕ) (offset : ℕ) (now : List ℕ) → offset + length now ≤ length b
    → length (written b offset now) ≡ length b
length_written b offset now within =
    ap (λ (x : List ℕ). length (take offset b ++ x ++ drop (offset + length now) b)) (sym (take_all (length now) now (omega arith)))
    ∙ length-paste b offset now (length now) within (omega arith)

-- a frame proves each of the bytes that it was found to prove
proved_each : (log b : List ℕ) (p offset n end o : ℕ) → drop (offset + n) b ≡ drop (offset + n) log
    → Proves b p offset n end → offset ≤ o → o < offset + n → IsProvedBy log b p o × (frame_end b p ≤ end)
proved_each log b p offset n end o behind proves low high = (
  record {
    right = proves.right;
    covered = elim proves.covered [ inl h ↦ inl (omega (arith, h, low)) | inr h ↦ inr h ];
    before = omega (arith, high, proves.within);
    kept = ap (take 32) (drop-drop (4 + stated (drop p b)) p b)
        ∙ ap (take 32) (behind_later b log (offset + n) (digest_place b p) proves.within behind);
  },
  omega (arith, proves.ends),
)

pub all_proved : (log b : List ℕ) (cs : List Change) (p offset n end : ℕ) → drop (offset + n) b ≡ drop (offset + n) log
    → Proves b p offset n end
    → All (λ c. (c.frame ≡ p) × (offset ≤ c.offset) × (c.offset < offset + n)) cs → AreProvedBefore log b cs end
all_proved log b cs p offset n end behind proves told = λ k d lt.
    let c = told k d lt in
    let o = (get_or cs k d).offset in
    subst (λ (q : ℕ). IsProvedBy log b q o × (frame_end b q ≤ end)) (sym c.0)
    (proved_each log b p offset n end o behind proves c.1 c.2)

-- what is proved before an offset is proved
pub are_proved : (log b : List ℕ) (cs : List Change) (at : ℕ) → AreProvedBefore log b cs at → AreProved log b cs
are_proved log b cs at proved = λ k d lt. (proved k d lt).0

-- what is found of bytes that are written
pub proved_of : (b c : List ℕ) (p offset n : ℕ) (now : List ℕ) (found : Option ℕ) → c ≡ written b offset now
    → offset + length now ≤ length b
    → MatchOption found ((end : ℕ) → Proves c p offset n end → ⊥) (λ end. Proves c p offset n end × (end ≤ length c))
    → MatchOption found ((end : ℕ) → Proves (written b offset now) p offset n end → ⊥)
    (λ end. Proves (written b offset now) p offset n end × (end ≤ length b))
proved_of b c p offset n now None same within none = λ end proves.
    none end (subst (λ (x : List ℕ). Proves x p offset n end) (sym same) proves)
proved_of b c p offset n now (Some end) same within it = (
  subst (λ (x : List ℕ). Proves x p offset n end) same it.0,
  omega (arith, it.1, ap length same, length_written b offset now within),
)

-- bytes that are written over others, and those again, leave all as it was
pub written_back : (b : List ℕ) (offset n : ℕ) (now was : List ℕ) → length now ≡ n → length was ≡ n → offset + n ≤ length b
    → was ≡ take n (drop offset b) → written (written b offset now) offset was ≡ b
written_back b offset n now was long wide within stood =
    let c = written b offset now in
    let front : take offset c ≡ take offset b = sym (written_before b offset offset now (omega arith) (omega (arith, within))) in
    let all : drop (offset + n) c ≡ drop (offset + n) b =
    ap (λ (x : List ℕ). drop (offset + n) (take offset b ++ x ++ drop (offset + length now) b))
    (sym (take_all (length now) now (omega arith)))
    ∙ ap (λ (k : ℕ). drop (offset + k) (paste b offset now (length now))) (sym long)
    ∙ drop-paste b offset now (length now) (omega (arith, within)) (omega arith)
    ∙ ap (λ (k : ℕ). drop (offset + k) b) long in
    ap (λ (k : ℕ). take offset c ++ was ++ drop (offset + k) c) wide
    ∙ ap (λ (x : List ℕ). x ++ was ++ drop (offset + n) c) front
    ∙ ap (λ (x : List ℕ). take offset b ++ x ++ drop (offset + n) c) stood
    ∙ ap (λ (x : List ℕ). take offset b ++ take n (drop offset b) ++ x) all
    ∙ ap (λ (x : List ℕ). x ++ drop (offset + n) b) (sym (take-add offset n b))
    ∙ take-append-drop (offset + n) b
