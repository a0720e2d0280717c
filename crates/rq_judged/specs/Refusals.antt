-- Why nothing begins at an offset of a log.
use Rattle.std.specs.Prelude.{◌≤◌, ℕ, List, length}
use Rattle.rq_model.specs.Records.{Version}
use Rattle.rq_model.specs.Frames.{log_limit, HasHeader}
use Rattle.rq_model.specs.States.{State}
use Rattle.rq_model.specs.StateSpelling.{SpellsUpTo, log_next, carried_next}
use Rattle.rq_model.specs.Checkpoints.{IsCheckpointAt}
use Rattle.rq_record.specs.declared.fault.Fault.{Fault}
use Rattle.rq_record.specs.declared.fault.Fault.TheVariants.{NoCheckpoint, BadCheckpoint}
use Rattle.rq_front.specs.Chains.{IsHeaded, Refused}

-- no checkpoint begins at the offset of the log b
abbrev pub HasNoCheckpoint : List ℕ → ℕ → Type 0
HasNoCheckpoint b offset = (length b ≤ log_limit) × IsHeaded b
    × ((kept : List ℕ) → IsCheckpointAt b offset kept → ⊥)

-- one does, and spells no state of the log's version, whose next record number is at most this
abbrev pub HasBadCheckpoint : ℕ → List ℕ → ℕ → Type 0
HasBadCheckpoint most b offset = (length b ≤ log_limit) × (version : Version) × HasHeader version b
    × (kept : List ℕ) × IsCheckpointAt b offset kept
    × ((s : State) → SpellsUpTo most version s kept → ⊥)

-- why nothing begins at the offset of b: no checkpoint stands there, or a bad one; or b is too long,
-- or no log
abbrev pub RefusedUpTo : ℕ → List ℕ → ℕ → Fault → Type 0
RefusedUpTo most b offset NoCheckpoint = HasNoCheckpoint b offset
RefusedUpTo most b offset BadCheckpoint = HasBadCheckpoint most b offset
RefusedUpTo most b offset e = Refused b e

-- so of a log
abbrev pub RefusedAt : List ℕ → ℕ → Fault → Type 0
RefusedAt b offset e = RefusedUpTo log_next b offset e

-- and of a carried file that is read as the log b
abbrev pub RefusedCarried : List ℕ → ℕ → Fault → Type 0
RefusedCarried b offset e = RefusedUpTo carried_next b offset e
