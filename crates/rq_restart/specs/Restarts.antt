-- What a restart of a log answers; and records without what a checkpoint at their start spells.
use Rattle.std.specs.Prelude.{List, [], ◌∷◌, ◌≡◌, ◌≤◌, ℕ, length, Result, Ok, Err}
use Rattle.rq_model.specs.Records.{Record, Checkpoint, Version}
use Rattle.rq_model.specs.Frames.{log_limit}
use Rattle.rq_model.specs.States.{State, empty}
use Rattle.rq_model.specs.StateSpelling.{log_next, carried_next}
use Rattle.rq_model.specs.Machine.{run}
use Rattle.rq_model.specs.Fronts.{Restarted, IsFront, IsRestart}
use Rattle.rq_model.specs.Checkpoints.{IsRestartUpTo}
use Rattle.rq_record.specs.declared.fault.Fault.{Fault}
use Rattle.rq_front.specs.Chains.{IsHeaded, Refused}
use Rattle.rq_judged.specs.Refusals.{RefusedUpTo}

abbrev pub cleared : Record → Record
cleared (Checkpoint bytes) = Checkpoint []
cleared r = r

abbrev pub first_cleared : List Record → List Record
first_cleared [] = []
first_cleared (r ∷ rs) = cleared r ∷ rs

-- the restart of b, or why b is refused: it is too long, or no log
abbrev pub Restarts : List ℕ → Result Restarted Fault → Type 0
Restarts b (Ok r) = (length b ≤ log_limit) × IsHeaded b × IsRestart b r
Restarts b (Err e) = Refused b e

-- the state after the front of b, or why b is refused
abbrev pub FindsState : List ℕ → Result State Fault → Type 0
FindsState b (Ok s) = (version : Version) × (records : List Record)
    × (rest : List ℕ) × IsFront b version records rest × (s ≡ run empty records)
FindsState b (Err e) = Refused b e

-- the restart of b from the checkpoint at the offset, in a state whose next record number is at most
-- this, or why there is none
abbrev pub RestartsUpTo : ℕ → List ℕ → ℕ → Result Restarted Fault → Type 0
RestartsUpTo most b offset (Ok r) = (length b ≤ log_limit) × IsHeaded b × IsRestartUpTo most b offset r
RestartsUpTo most b offset (Err e) = RefusedUpTo most b offset e

-- that of a log
abbrev pub RestartsAt : List ℕ → ℕ → Result Restarted Fault → Type 0
RestartsAt b offset result = RestartsUpTo log_next b offset result

-- and that of a carried file that is read as the log b
abbrev pub RestartsCarried : List ℕ → ℕ → Result Restarted Fault → Type 0
RestartsCarried b offset result = RestartsUpTo carried_next b offset result
