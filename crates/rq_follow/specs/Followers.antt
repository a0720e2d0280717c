-- A log that comes piece by piece, plain or carried on, and what a standby made of it.
use Rattle.std.specs.Prelude.{◌≡◌, ◌⊎◌, ◌<◌, ◌≤◌, ⊤, ℕ, List, [], ◌∷◌, ◌++◌, length, drop, Option, Some, None, Result}
use Rattle.std.specs.Prelude.{Ok, Err}
use Rattle.rq_model.specs.Records.{Version}
use Rattle.rq_model.specs.Frames.{log_limit, header, body_in, HasRightFrame}
use Rattle.rq_model.specs.States.{State}
use Rattle.rq_model.specs.StateSpelling.{SpellsCarried, carried_next}
use Rattle.rq_model.specs.Checkpoints.{IsCheckpointAt}
use Rattle.rq_model.specs.Carrying.{HasCarriedHeader, as_log, carried_at, carried_file}
use Rattle.rq_record.specs.declared.fault.Fault.{Fault}
use Rattle.rq_record.specs.declared.fault.Fault.TheVariants.{NotALog, TooLong, NoCheckpoint, BadCheckpoint, Resources}
use Rattle.rq_front.specs.Chains.{IsCarried, IsHeaded}
use Rattle.rq_judged.specs.declared.ends.Edge.{Edge}
use Rattle.rq_judged.specs.Refusals.{HasBadCheckpoint, HasNoCheckpoint}
use Rattle.rq_judged.specs.Windows.{Origin, log_origin}
use Rattle.rq_restart.specs.declared.redone.RedoneFront.{RedoneFront}
use Rattle.rq_restart.specs.RedoneFronts.{RedoesFront, RedoesFrontAt}
use Rattle.rq_follow.specs.declared.beginning.Coming.{Coming}
use Rattle.rq_follow.specs.declared.beginning.Coming.TheVariants.{Header, Linked, Plain, Carried}
use Rattle.rq_follow.specs.declared.follower.Follower.{Follower}
use Rattle.rq_follow.specs.declared.pass.MachinePass.{MachinePass}
use Rattle.rq_follow.specs.declared.pass.Standing.{Standing}
use Rattle.rq_follow.specs.Passes.{HasDoneAll, front_of}

-- b is a carried file, which is read as the log w
pub record IsReadSo (b w : List ℕ) : Type 0 where
  pub version : Version
  pub header : HasCarriedHeader version b
  pub read : w ≡ as_log version b
  pub short : length b ≤ log_limit

-- its frames from the checkpoint on, in the state that this spells, behind the link
abbrev pub carried_origin : Version → State → List ℕ → Origin
carried_origin version base link =
    record { version = version; base = base; link = link; ahead = carried_at }

-- b is a log, and its front is passed
pub record IsPlain (b : List ℕ) (f : MachinePass) : Type 0 where
  pub version : Version
  pub bytes : List ℕ
  pub whole : b ≡ header version ++ bytes
  pub fed : HasDoneAll (log_origin version) bytes f

-- b is a carried file that begins with a checkpoint, and its front is passed
pub record IsCarriedAlong (b : List ℕ) (f : MachinePass) : Type 0 where
  pub version : Version
  pub base : State
  pub kept : List ℕ
  pub link : List ℕ
  pub bytes : List ℕ
  pub whole : b ≡ carried_file version link bytes
  pub long : length link ≡ 32
  pub right : HasRightFrame link bytes
  pub body : body_in bytes ≡ 9 ∷ kept
  pub spells : SpellsCarried version base kept
  pub fed : HasDoneAll (carried_origin version base link) bytes f

-- b is a carried file without a checkpoint, which is read as the log w
pub record IsLinked (b w : List ℕ) : Type 0 where
  pub is : IsReadSo b w
  pub none : (kept : List ℕ) → IsCheckpointAt w carried_at kept → ⊥

-- so much of b there is: less than a header, a carried file without a checkpoint, or a front
abbrev pub IsSoFar : List ℕ → Coming → Type 0
IsSoFar b (Header first) = (first.items ≡ b) × (length b < 40)
IsSoFar b (Linked w) = IsLinked b w.items
IsSoFar b (Plain f) = IsPlain b f
IsSoFar b (Carried f) = IsCarriedAlong b f

-- The standby goes along with the bytes b
abbrev pub IsFollowing : List ℕ → Follower → Type 0
IsFollowing b f = IsSoFar b f.stage

-- a carried file is refused so when it is read as a log
abbrev pub RefusesRead : List ℕ → (List ℕ → ℕ → Type 0) → Type 0
RefusesRead b p = (version : Version) × HasCarriedHeader version b × p (as_log version b) carried_at

-- why bytes do not come, with which there are these: no log has so many, or begins so; or a carried
-- file has no checkpoint or a bad one; or memory was refused
abbrev pub RefusesBytes : List ℕ → Fault → Type 0
RefusesBytes b TooLong = log_limit < length b
RefusesBytes b NotALog = (40 ≤ length b) × (IsHeaded b → ⊥) × (IsCarried b → ⊥)
RefusesBytes b NoCheckpoint = RefusesRead b HasNoCheckpoint
RefusesBytes b BadCheckpoint = RefusesRead b (HasBadCheckpoint carried_next)
RefusesBytes b Resources = ⊤
RefusesBytes b e = ⊥

-- The front of b and the state behind it, or why there is none; of a carried file as of the log as
-- which it is read, from its checkpoint on
abbrev pub RedoesBytes : List ℕ → Result RedoneFront Fault → Type 0
RedoesBytes b r = ((IsCarried b → ⊥) × RedoesFront b r)
    ⊎ ((version : Version) × HasCarriedHeader version b × RedoesFrontAt (as_log version b) carried_at r)

-- the same, with the machine behind the front
abbrev pub StandsBytes : List ℕ → Result Standing Fault → Type 0
StandsBytes b (Ok s) = RedoesBytes b (Ok (front_of s))
StandsBytes b (Err e) = RedoesBytes b (Err e)

-- some front of b ends there; or none begins
abbrev pub EndsBytes : List ℕ → Option Edge → Type 0
EndsBytes b (Some e) = (r : RedoneFront) × RedoesBytes b (Ok r) × (r.end ≡ e)
EndsBytes b None = RedoesBytes b (Err NotALog) ⊎ RedoesBytes b (Err NoCheckpoint)

-- the last 32 bytes of the front of b, and what follows it; or nothing, if none begins
abbrev pub TellsBehind : List ℕ → List ℕ → Type 0
TellsBehind b told = ((r : RedoneFront) × RedoesBytes b (Ok r) × (told ≡ r.last ++ drop r.end.used b))
    ⊎ ((told ≡ []) × EndsBytes b None)
