-- Which checkpoints are true, found on the way through the records.
use Rattle.std.specs.Prelude.{◌≡◌, ℕ, ◌+◌, ◌≤◌, ◌<◌, ◌&&◌, Bool, true, List, [], ◌∷◌, ◌++◌, length}
use Rattle.std.specs.Prelude.{map, take, nat_le, slice_index_or, Result, Ok, Err}
use Rattle.std.specs.Str.{bytes_eq}
use Rattle.std.specs.Global.{Vec}
use Rattle.rq_model.specs.Records.{Record, Checkpoint, Version}
use Rattle.rq_model.specs.Spelling.{body_of}
use Rattle.rq_model.specs.Frames.{log_limit, HasHeader, AreBytes}
use Rattle.rq_model.specs.States.{State}
use Rattle.rq_model.specs.Machine.{step, run, all_lawful}
use Rattle.rq_model.specs.StateSpelling.{carried_next, state_bytes}
use Rattle.rq_model.specs.Fronts.{Why}
use Rattle.rq_model.specs.Checkpoints.{Audited, IsAudit}
use Rattle.rq_model.specs.Carrying.{IsCarriedFront}
use Rattle.rq_record.specs.declared.fault.Fault.{Fault}
use Rattle.rq_front.specs.declared.spans.Span.{Span}
use Rattle.rq_front.specs.Chains.{IsHeaded, Refused}
use Rattle.rq_judged.specs.FrontEnds.{IsFrontFrom}
use Rattle.rq_judged.specs.Refusals.{RefusedCarried}

-- a checkpoint of these bytes spells the state; no state of a log has a greater next record number
abbrev pub is_spelled : State → List ℕ → Bool
is_spelled s kept = nat_le s.next carried_next && bytes_eq kept (state_bytes s)

-- a record whose frame stands at an offset, in the state before it
abbrev pub audit_of : State → ℕ → Record → List Audited
audit_of s at (Checkpoint kept) = record { offset = at; truth = is_spelled s kept } ∷ []
audit_of s at r = []

-- records whose frames stand from an offset on
abbrev pub audits : State → ℕ → List Record → List Audited
audits s at [] = []
audits s at (r ∷ rs) = audit_of s at r ++ audits (step s r) (at + 36 + length (body_of r)) rs

-- the offset behind records whose frames stand from an offset on
abbrev pub past : ℕ → List Record → ℕ
past at [] = at
past at (r ∷ rs) = past (at + 36 + length (body_of r)) rs

abbrev pub audited_of : ℕ × Bool → Audited
audited_of x = record { offset = x.0; truth = x.1 }

-- the spans of a chain from an offset on, of which the first are those of the records
abbrev pub StandAt : ℕ → List Record → List Span → Type 0
StandAt at rs spans = (i : ℕ) → i < length rs
    → (i < length spans) × ((d : Span) → (slice_index_or spans i d).start ≡ past at (take i rs) + 4)

-- records that are lawful from a state on, and the spans of their frames
pub record StandInFrames (version : Version) (s : State) (at : ℕ) (rs : List Record) (spans : List Span)
    : Type 0 where
  pub lawful : all_lawful version s rs ≡ true
  pub stand : StandAt at rs spans

-- what is found in the front of b from an offset and a state on
pub record IsAuditedFrom (version : Version) (s : State) (b : List ℕ) (from : ℕ)
    (found : List (ℕ × Bool)) : Type 0 where
  pub records : List Record
  pub end : ℕ
  pub why : Why
  pub front : IsFrontFrom version s b from records end why
  pub told : map audited_of found ≡ audits s from records

-- the audit of b, or why b is refused: it is too long, or no log
abbrev pub Audits : List ℕ → Result (Vec (ℕ × Bool)) Fault → Type 0
Audits b (Ok v) = (length b ≤ log_limit) × IsHeaded b × IsAudit b (map audited_of v.items)
Audits b (Err e) = Refused b e

-- a carried file that is read as the log b, with a front from the checkpoint at an offset on
pub record HasFrontAt (b : List ℕ) (offset : ℕ) : Type 0 where
  pub version : Version
  pub base : State
  pub kept : List ℕ
  pub after : List Record
  pub rest : List ℕ
  pub front : IsCarriedFront b offset version base kept after rest

-- the checkpoints of that front, the first of which is taken at its word
abbrev pub IsAuditAt : List ℕ → ℕ → List Audited → Type 0
IsAuditAt b offset found = (x : HasFrontAt b offset)
    × (found ≡ audits x.base offset (Checkpoint x.kept ∷ x.after))

-- these, or why there are none
abbrev pub AuditsAt : List ℕ → ℕ → Result (Vec (ℕ × Bool)) Fault → Type 0
AuditsAt b offset (Ok v) = IsAuditAt b offset (map audited_of v.items)
AuditsAt b offset (Err e) = RefusedCarried b offset e

-- Every log has an audit
abbrev pub EveryLogHasAudit : Type 0
EveryLogHasAudit = (version : Version) (b : List ℕ) → AreBytes b
    → length b ≤ log_limit → HasHeader version b → (found : List Audited) × IsAudit b found
