-- What ends at a place of a log.
use Rattle.std.proofs.Common.{◌≡◌, ℕ, ◌+◌, ◌-◌, ◌≤◌, List, [], ◌++◌, length, take, drop, Some, sym, ap, ◌∙◌}
use Rattle.std.proofs.Common.{append_assoc, arith}
use Rattle.std.specs.Prelude.{slice_range}
use Rattle.std.proofs.lemmas.List.{append-nil, take-append-drop, length-append, length-take, length-drop}
use Rattle.rq_bytes.specs.Readers.{Reader, Reads}
use Rattle.rq_record.specs.LogParts.{EndsAt, IsLeftTo}

-- a piece of the log ends where it ends
pub piece_at : (log : List ℕ) (start len : ℕ) → start + len ≤ length log
    → EndsAt log (start + len) (slice_range log start (start + len))
piece_at log start len fits =
    let from : List ℕ = drop start log in
    let n = start + len - start in
    record {
      before = take start log;
      behind = drop n from;
      whole = sym (take-append-drop start log)
          ∙ ap (λ (z : List ℕ). take start log ++ z) (sym (take-append-drop n from));
      there = omega (arith, fits, length-take start log, length-take n from, length-drop start log);
    }

-- all bytes end where they end
pub all_at : (bytes : List ℕ) → EndsAt bytes (length bytes) bytes
all_at bytes = record { before = []; behind = []; whole = sym (append-nil bytes); there = omega arith }

-- behind a front of them, the others end there as well
behind_front : (log bytes front left : List ℕ) (end : ℕ) → EndsAt log end bytes → bytes ≡ front ++ left
    → EndsAt log end left
behind_front log bytes front left end h parts = record {
  before = h.before ++ front;
  behind = h.behind;
  whole = h.whole ∙ ap (λ (z : List ℕ). h.before ++ (z ++ h.behind)) parts
      ∙ ap (λ (z : List ℕ). h.before ++ z) (append_assoc front left h.behind)
      ∙ sym (append_assoc h.before front (left ++ h.behind));
  there = omega (
    arith,
    h.there,
    length-append h.before front,
    ap length parts,
    length-append front left,
  );
}

-- so does what a reader leaves
pub left_at : {X : Type 0} {P : X → Type 0} {spelling : X → List ℕ} {Ends : List ℕ → Type 0} {reader : Reader X}
    → Reads P spelling Ends reader → (log bytes left : List ℕ) (end : ℕ) (x : X) → IsLeftTo log end bytes
    → reader bytes ≡ Some (x, left) → IsLeftTo log end left
left_at reads log bytes left end x h is =
    let taken = reads.takes bytes (x, left) h.bytes is in
    record { ends = behind_front log bytes _ left end h.ends taken.parts; bytes = taken.rest_fits }
