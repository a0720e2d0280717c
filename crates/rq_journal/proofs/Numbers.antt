-- The number that a carried file begins with, and that of the next record behind its front.
use Rattle.std.proofs.Common.{◌≡◌, ◌+◌, ◌-◌, ◌<◌, ◌≤◌, ◌^◌, ℕ, List, [], ◌∷◌, ◌++◌, length, take, drop, refl, sym, ap, subst, ◌∙◌}
use Rattle.std.proofs.Common.{append_assoc, arith}
use Rattle.std.proofs.lemmas.List.{length-append, length-drop, take-append-drop, drop-drop}
use Rattle.std.specs.Int.{w64, to_be_bytes}
use Rattle.rq_model.specs.Records.{Record, Checkpoint, Version}
use Rattle.rq_model.specs.Frames.{before, frames_of, stated, body_in}
use Rattle.rq_model.specs.States.{State}
use Rattle.rq_model.specs.Machine.{run}
use Rattle.rq_model.specs.StateSpelling.{state_bytes}
use Rattle.rq_model.specs.Carrying.{IsCarriedFront, carried_at}
use Rattle.rq_model.proofs.Restarts.{frames_many, next_run}
use Rattle.rq_judged.specs.declared.judged.JudgedFront.{JudgedFront}
use Rattle.rq_judged.specs.JudgedFronts.{IsJudgedAt}

-- what stands behind the length and the kind of the checkpoint begins with the number
pub record BeginsWith (n : ℕ) (bytes : List ℕ) : Type 0 where
  pub more : List ℕ
  pub bytes_are : bytes ≡ to_be_bytes w64 n ++ more

spelled : (s : State) → BeginsWith s.next (state_bytes s)
spelled s = record { more = _; bytes_are = refl }

pub spelled_first : (b : List ℕ) (version : Version) (s : State) (kept : List ℕ) (after : List Record) (rest : List ℕ)
    → IsCarriedFront b carried_at version s kept after rest → BeginsWith s.next (drop 77 b)
spelled_first b version s kept after rest h =
    let frame = drop carried_at b in
    let body = drop 4 frame in
    let tail = drop (stated frame) body in
    let first : List ℕ = to_be_bytes w64 s.next in
    let others = (spelled s).more in
    let body_is : body ≡ 9 ∷ (first ++ (others ++ tail)) =
    sym (take-append-drop (stated frame) body) ∙ ap (λ (z : List ℕ). z ++ tail) h.checkpoint.body
    ∙ ap (λ (z : List ℕ). 9 ∷ (z ++ tail)) (h.spells.spelling ∙ (spelled s).bytes_are)
    ∙ ap (λ (z : List ℕ). 9 ∷ z) (append_assoc first others tail) in
    record {
      more = others ++ tail;
      bytes_are = sym (drop-drop 5 72 b) ∙ sym (drop-drop 1 4 frame) ∙ ap (drop 1) body_is;
    }

-- and it is long enough for that
pub long_enough : (b : List ℕ) (version : Version) (s : State) (kept : List ℕ) (after : List Record) (rest : List ℕ)
    → IsCarriedFront b carried_at version s kept after rest → 77 ≤ length b
long_enough b version s kept after rest h =
    omega (arith, h.checkpoint.frame.whole.room, length-drop carried_at b)

-- how many records there are behind the first number, and that they have numbers
pub counted : (b : List ℕ) (f : JudgedFront) (h : IsJudgedAt b carried_at f)
    → h.base.next + f.end.records ≡ (run h.base (Checkpoint h.kept ∷ h.after)).next
counted b f h =
    let xs : List Record = Checkpoint h.kept ∷ h.after in
    omega (arith, h.count, next_run h.base xs)

pub few : (b : List ℕ) (f : JudgedFront) (h : IsJudgedAt b carried_at f) → h.base.next + f.end.records < 2 ^ 64
few b f h =
    let xs : List Record = Checkpoint h.kept ∷ h.after in
    let begins = h.front.front.begins in
    omega (
      arith,
      h.count,
      h.front.spells.next,
      h.front.short,
      frames_many (before carried_at b) xs,
      ap length begins.whole,
      length-append (frames_of (before carried_at b) xs) (drop f.end.used b),
      length-drop carried_at b,
    )
