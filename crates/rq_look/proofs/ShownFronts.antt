-- The front of a log that is shown, and its frames.
use Rattle.std.proofs.Common.{◌≡◌, ◌∙◌, ℕ, ◌+◌, ◌-◌, ◌≤◌, List, ◌++◌, length, take, drop, Option, Some, None}
use Rattle.std.proofs.Common.{refl, ap, arith}
use Rattle.std.proofs.lemmas.List.{length-append, length-drop, drop-take, take_at}
use Rattle.rq_model.specs.Records.{Record, Version, One, Two}
use Rattle.rq_model.specs.Spelling.{body_of, IsRecord}
use Rattle.rq_model.specs.Frames.{frames_of}
use Rattle.rq_model.specs.States.{State, empty}
use Rattle.rq_model.specs.Checkpoints.{IsCheckpointAt}
use Rattle.rq_model.proofs.Upgraded.{record_is_wider}
use Rattle.rq_found.specs.Records.{SpelledIn}

-- the state behind which the records that are shown begin
abbrev pub IsFirst : Option ℕ → List ℕ → State → Type 0
IsFirst None b s = s ≡ empty
IsFirst (Some at) b s = (kept : List ℕ) → IsCheckpointAt b at kept → SpelledIn b kept s

-- it is said of each offset apart
pub first_is : (at : Option ℕ) (b : List ℕ) (s : State) → (at ≡ None → s ≡ empty)
    → ((offset : ℕ) (kept : List ℕ) → at ≡ Some offset → IsCheckpointAt b offset kept → SpelledIn b kept s)
    → IsFirst at b s
first_is None b s start there = start refl
first_is (Some at) b s start there = λ kept stands. there at kept refl stands

-- the frames from an offset on, of which it is known what stands behind them
pub frames_to : (b p : List ℕ) (at used : ℕ) (rs : List Record) (rest : List ℕ) → drop at b ≡ frames_of p rs ++ rest
    → used ≡ length b - length rest → at ≤ length b → drop at (take used b) ≡ frames_of p rs
frames_to b p at used rs rest whole used_is high =
    let size : length b - at ≡ length (frames_of p rs) + length rest =
    omega (arith, ap length whole, length-append (frames_of p rs) rest, length-drop at b) in
    let end : used ≡ at + length (frames_of p rs) = omega (arith, used_is, size, high) in
    ap (λ (n : ℕ). drop at (take n b)) end ∙ drop-take at (length (frames_of p rs)) b
    ∙ ap (take (length (frames_of p rs))) whole ∙ take_at (frames_of p rs) rest (length (frames_of p rs)) refl

-- what has a spelling in one version has it in the second
pub as_two : (version : Version) (r : Record) → IsRecord version r → IsRecord Two r
as_two One r h = (record_is_wider r (body_of r) (h, refl)).0
as_two Two r h = h
