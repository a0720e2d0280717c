-- A checkpoint of a state, behind the front of a log too, and the ABORTs before it.
use Rattle.std.specs.Prelude.{◌≡◌, ◌↔◌, ◌⊎◌, ◌+◌, ◌<◌, ◌≤◌, ⊤, ℕ, List, [], ◌∷◌, ◌++◌, length, take, Result, Ok, Err}
use Rattle.std.specs.Global.{Vec}
use Rattle.rq_model.specs.Records.{Checkpoint, Record, Version}
use Rattle.rq_model.specs.Spelling.{body_of}
use Rattle.rq_model.specs.Frames.{AreBytes, IsBodyLength, log_limit, log_of, frames_of, before}
use Rattle.rq_model.specs.States.{State, empty}
use Rattle.rq_model.specs.Machine.{aborts, run}
use Rattle.rq_model.specs.StateSpelling.{carried_next, state_bytes}
use Rattle.rq_model.specs.Fronts.{IsFront, Restarted}
use Rattle.rq_model.specs.Reports.{IsReport}
use Rattle.rq_model.specs.Checkpoints.{TrueAt, IsReportAt}
use Rattle.rq_model.specs.Closing.{HaveSameQueues}
use Rattle.rq_model.specs.Appending.{FitsCheckpoint, with_checkpoint}
use Rattle.rq_model.specs.Carrying.{IsCarriedFront, IsCarriedRestart}
use Rattle.rq_record.specs.declared.fault.Fault.{Fault}
use Rattle.rq_record.specs.declared.fault.Fault.TheVariants as faults
use Rattle.rq_record.specs.Views as rt
use Rattle.rq_record.specs.Views.{record_of}
use Rattle.rq_front.specs.Framers.{Place, behind_header, at_checkpoint, length_with}
use Rattle.rq_journal.specs.declared.appender.NotTaken.{NotTaken}
use Rattle.rq_journal.specs.declared.appender.NotTaken.TheVariants as untaken
use Rattle.rq_journal.specs.declared.checkpoints.NotMarked.{NotMarked}
use Rattle.rq_journal.specs.declared.checkpoints.NotMarked.TheVariants.{Ended, Full, Large, Resources}
use Rattle.rq_journal.specs.declared.growths.Growth.{Growth}
use Rattle.rq_journal.specs.Growths.{GrowsBy, IsGrownAt}

-- why a state has no checkpoint: it numbers too many records, or its spelling is too long; or memory
-- was refused
abbrev pub HasNoCheckpointOf : State → Fault → Type 0
HasNoCheckpointOf s faults.TooLong = carried_next < s.next
HasNoCheckpointOf s faults.TooLarge = (s.next ≤ carried_next) × (268435455 < length (state_bytes s))
HasNoCheckpointOf s faults.Resources = ⊤
HasNoCheckpointOf s _ = ⊥

-- a checkpoint of it, or why it has none
abbrev pub MakesCheckpoint : State → Result rt.Record Fault → Type 0
MakesCheckpoint s (Ok r) = (s.next ≤ carried_next) × (length (state_bytes s) ≤ 268435455)
    × (record_of r ≡ Checkpoint (state_bytes s))
MakesCheckpoint s (Err e) = HasNoCheckpointOf s e

-- the body of a checkpoint of the state
pub record IsCheckpointOf (s : State) (body : List ℕ) : Type 0 where
  pub bytes : body ≡ body_of (Checkpoint (state_bytes s))
  pub small : length (state_bytes s) ≤ 268435455
  pub fits : IsBodyLength (length body)

-- that, or why it has none
abbrev pub SpellsBody : State → Result (Vec ℕ) Fault → Type 0
SpellsBody s (Ok body) = (s.next ≤ carried_next) × IsCheckpointOf s body.items
SpellsBody s (Err e) = HasNoCheckpointOf s e

-- wherever a stood, b stands behind the ABORTs of the units that are open in s too, which lead from s
-- to t
abbrev pub EndsUnits : Growth → Growth → State → State → Type 0
EndsUnits a b s t = GrowsBy a b (aborts s) × (t ≡ run s (aborts s))

-- wherever a stood, the log would be too long with these records, or so many are numbered that no
-- state behind one more is spelled; or memory was refused
abbrev pub IsCrowdedBy : Growth → List Record → NotMarked → Type 0
IsCrowdedBy a ys Full = (at : Place) (rs xs : List Record) → IsGrownAt at rs xs a
    → log_limit < length_with at (rs ++ (xs ++ ys))
IsCrowdedBy a ys Resources = ⊤
IsCrowdedBy a ys Ended = (at : Place) (rs xs : List Record) → IsGrownAt at rs xs a
    → carried_next ≤ (run at.state (rs ++ xs)).next
IsCrowdedBy a ys Large = ⊥

-- why not: so many records would be numbered, or the log would be too long; or memory was refused
abbrev pub StaysUnended : Growth → State → NotMarked → Type 0
StaysUnended a s Ended = carried_next < s.next + length s.units
StaysUnended a s why = IsCrowdedBy a (aborts s) why

-- the record that spells the state
abbrev pub checkpoint_in : State → Record
checkpoint_in s = Checkpoint (state_bytes s)

-- wherever a stood, b stands behind a checkpoint of the state too, which begins at this offset
pub record Marks (a b : Growth) (s : State) (offset : ℕ) : Type 0 where
  pub grown : GrowsBy a b (checkpoint_in s ∷ [])
  pub fits : FitsCheckpoint s
  pub begins : (at : Place) (rs xs : List Record) → IsGrownAt at rs xs a → offset ≡ length_with at (rs ++ xs)

-- the log with a checkpoint at this offset, which is true: the restart from it and that of the log
-- have one report
pub record IsMarked (marked : List ℕ) (version : Version) (records : List Record) (offset : ℕ) : Type 0 where
  pub bytes : marked ≡ with_checkpoint version records
  pub short : length marked ≤ log_limit
  pub begins : offset ≡ length (log_of version records)
  pub truth : TrueAt marked offset
  pub report : (text : List ℕ) → IsReportAt marked offset text ↔ IsReport marked text
  pub queues : AreBytes (log_of version records) → HaveSameQueues (log_of version records) marked

-- wherever a stood behind the front of a log, in this state, the log with what b holds is marked there
abbrev pub MarksTruly : Growth → Growth → State → ℕ → Type 0
MarksTruly a b s offset = (whole : List ℕ) (version : Version) (rs xs : List Record) (rest : List ℕ) →
    IsFront whole version rs rest → IsGrownAt (behind_header version) rs xs a → s ≡ run empty (rs ++ xs)
    → IsMarked (log_of version rs ++ b.frames.items) version (rs ++ xs) offset

-- a carried file that is read as this log, from the checkpoint at the first offset on, with a checkpoint
-- at the second, behind these records: it spells the state before it, which begins a front of its own,
-- and a restart from it is that from the first
pub record IsTrueThere (marked : List ℕ) (first : ℕ) (version : Version) (base : State) (kept : List ℕ)
    (records : List Record) (offset : ℕ) : Type 0 where
  pub begins : offset ≡ first + length (frames_of (before first marked) (Checkpoint kept ∷ records))
  pub front : IsCarriedFront marked first version base kept
      (records ++ checkpoint_in (run base (Checkpoint kept ∷ records)) ∷ []) []
  pub there : IsCarriedFront marked offset version (run base (Checkpoint kept ∷ records))
      (state_bytes (run base (Checkpoint kept ∷ records))) [] []
  pub restart : (r : Restarted) → IsCarriedRestart marked offset r ↔ IsCarriedRestart marked first r

-- the bytes of a carried file that is read as the log b, up to the end of its front
abbrev pub carried_front : List ℕ → ℕ → List ℕ → List Record → List ℕ
carried_front b offset kept after =
    take (offset + length (frames_of (before offset b) (Checkpoint kept ∷ after))) b

-- wherever a stood behind the front of a carried file, in this state, the file with what b holds is
-- marked there
abbrev pub MarksTrulyThere : Growth → Growth → State → ℕ → Type 0
MarksTrulyThere a b s offset = (whole : List ℕ) (first : ℕ) (version : Version) (base : State)
    (kept : List ℕ) (after xs : List Record) (rest : List ℕ) →
    IsCarriedFront whole first version base kept after rest
    → IsGrownAt (at_checkpoint version base whole first) (Checkpoint kept ∷ after) xs a
    → s ≡ run base (Checkpoint kept ∷ (after ++ xs))
    → IsTrueThere (carried_front whole first kept after ++ b.frames.items) first version base kept
    (after ++ xs) offset

-- why there is no checkpoint: so many records are numbered, in the state or where it stands, the
-- spelling would be too long, or the log; or memory was refused
abbrev pub StaysUnmarked : Growth → State → NotMarked → Type 0
StaysUnmarked a s Ended = (carried_next ≤ s.next) ⊎ IsCrowdedBy a (checkpoint_in s ∷ []) Ended
StaysUnmarked a s Large = 268435455 < length (state_bytes s)
StaysUnmarked a s why = IsCrowdedBy a (checkpoint_in s ∷ []) why

-- why a record that is lawful is not taken
abbrev pub unmarked : NotTaken → NotMarked
unmarked untaken.Full = Full
unmarked untaken.Ended = Ended
unmarked why = Resources
