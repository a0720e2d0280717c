-- The front of a log, judged, from its start or from a checkpoint on.
use Rattle.std.specs.Prelude.{◌≡◌, ◌≤◌, ℕ, ◌+◌, List, ◌∷◌, length, drop, Result, Ok, Err}
use Rattle.rq_model.specs.Records.{Record, Checkpoint, Version}
use Rattle.rq_model.specs.Frames.{start, log_of, frames_of, last_of, before}
use Rattle.rq_model.specs.States.{State, empty}
use Rattle.rq_model.specs.Machine.{run}
use Rattle.rq_model.specs.Fronts.{IsFront, IsWhy}
use Rattle.rq_model.specs.Carrying.{IsCarriedFront}
use Rattle.rq_record.specs.declared.fault.Fault.{Fault}
use Rattle.rq_front.specs.Chains.{Refused}
use Rattle.rq_catalog.specs.Judges.{StandsIn}
use Rattle.rq_judged.specs.Refusals.{RefusedCarried}
use Rattle.rq_judged.specs.Views.{why_of}
use Rattle.rq_judged.specs.declared.judged.JudgedFront.{JudgedFront}

-- the judge stands behind the front of b, which ends here for this reason
pub record IsJudged (b : List ℕ) (f : JudgedFront) : Type 0 where
  pub version : Version
  pub records : List Record
  pub front : IsFront b version records (drop f.end.used b)
  pub ends : IsWhy version (run empty records) (last_of (start version) records)
      (drop f.end.used b) (why_of f.end.why)
  pub used : f.end.used ≡ length (log_of version records)
  pub count : f.end.records ≡ length records
  pub last : f.last ≡ last_of (start version) records
  pub judge : StandsIn version f.judge (run empty records)

-- that, or why b is refused
abbrev pub JudgesFront : List ℕ → Result JudgedFront Fault → Type 0
JudgesFront b (Ok f) = IsJudged b f
JudgesFront b (Err e) = Refused b e

-- the judge stands behind the front of a carried file that is read as the log b, from the checkpoint
-- at an offset, which ends here for this reason
pub record IsJudgedAt (b : List ℕ) (offset : ℕ) (f : JudgedFront) : Type 0 where
  pub version : Version
  pub base : State
  pub kept : List ℕ
  pub after : List Record
  pub front : IsCarriedFront b offset version base kept after (drop f.end.used b)
  pub ends : IsWhy version (run base (Checkpoint kept ∷ after))
      (last_of (before offset b) (Checkpoint kept ∷ after)) (drop f.end.used b) (why_of f.end.why)
  pub used : f.end.used
      ≡ offset + length (frames_of (before offset b) (Checkpoint kept ∷ after))
  pub count : f.end.records ≡ length (Checkpoint kept ∷ after)
  pub last : f.last ≡ last_of (before offset b) (Checkpoint kept ∷ after)
  pub judge : StandsIn version f.judge (run base (Checkpoint kept ∷ after))

-- that, or why there is none
abbrev pub JudgesFrontAt : List ℕ → ℕ → Result JudgedFront Fault → Type 0
JudgesFrontAt b offset (Ok f) = IsJudgedAt b offset f
JudgesFrontAt b offset (Err e) = RefusedCarried b offset e

-- the front from there begins in this state, and has no more records than b has bytes
pub record IsJudgedBehind (b : List ℕ) (offset : ℕ) (base : State) (f : JudgedFront) : Type 0 where
  pub is : IsJudgedAt b offset f
  pub begins : is.base ≡ base
  pub few : f.end.records ≤ length b
