-- Records whose frames are gathered behind the front of a log, and what a crash leaves of them.
use Rattle.std.specs.Prelude.{◌≡◌, ◌+◌, ℕ, List, [], ◌∷◌, ◌++◌, length, drop}
use Rattle.rq_model.specs.Records.{Record, Checkpoint, Version}
use Rattle.rq_model.specs.Frames.{log_of, frames_of, last_of, before}
use Rattle.rq_model.specs.States.{State}
use Rattle.rq_model.specs.Fronts.{IsFront}
use Rattle.rq_model.specs.Carrying.{IsCarriedFront}
use Rattle.rq_model.specs.Appending.{HasGrown, IsLeftOf}
use Rattle.rq_front.specs.Framers.{Place, behind_header, at_checkpoint}
use Rattle.rq_journal.specs.Appenders.{IsAppenderAt, IsRefused}
use Rattle.rq_journal.specs.declared.appender.NotTaken.{NotTaken}
use Rattle.rq_journal.specs.declared.growths.Growth.{Growth}

-- it stands behind these records of a front and further ones, whose frames it holds
pub record IsGrownAt (at : Place) (rs xs : List Record) (g : Growth) : Type 0 where
  pub stands : IsAppenderAt at (rs ++ xs) g.appender
  pub frames : g.frames.items ≡ frames_of (last_of at.link rs) xs

-- it stands behind the front of b, and holds the frames of these records
pub record IsGrownBehind (b : List ℕ) (xs : List Record) (g : Growth) : Type 0 where
  pub version : Version
  pub records : List Record
  pub front : IsFront b version records (drop g.end.used b)
  pub used : g.end.used ≡ length (log_of version records)
  pub grown : IsGrownAt (behind_header version) records xs g

-- the same of the front of a carried file that is read as the log b, from the checkpoint at an offset
pub record IsGrownFrom (b : List ℕ) (offset : ℕ) (xs : List Record) (g : Growth) : Type 0 where
  pub version : Version
  pub base : State
  pub kept : List ℕ
  pub after : List Record
  pub front : IsCarriedFront b offset version base kept after (drop g.end.used b)
  pub used : g.end.used ≡ offset + length (frames_of (before offset b) (Checkpoint kept ∷ after))
  pub grown : IsGrownAt (at_checkpoint version base b offset) (Checkpoint kept ∷ after) xs g

-- whatever beginning of these frames stands behind those of some records, the longest list of lawful
-- records there holds these, and the further ones whose frames are whole
abbrev pub AreWrittenAt : Place → List Record → List Record → List ℕ → Type 0
AreWrittenAt at rs xs written = (part missing : List ℕ) → written ≡ part ++ missing
    → HasGrown at.version at.state at.link rs xs part

-- the frames of these records behind the front of b: whatever beginning of them stands there, the
-- front is the old one and the records whose frames are wholly there
pub record AreWrittenBehind (b : List ℕ) (xs : List Record) (written : List ℕ) : Type 0 where
  pub version : Version
  pub records : List Record
  pub rest : List ℕ
  pub front : IsFront b version records rest
  pub crash : (part missing : List ℕ) → written ≡ part ++ missing →
      IsLeftOf version records xs part (log_of version records ++ part)
  pub whole : IsFront (log_of version records ++ written) version (records ++ xs) []

-- so it is behind the front of a carried file that is read as the log b, from the checkpoint at an
-- offset
pub record AreWrittenFrom (b : List ℕ) (offset : ℕ) (xs : List Record) (written : List ℕ) : Type 0 where
  pub version : Version
  pub base : State
  pub kept : List ℕ
  pub after : List Record
  pub rest : List ℕ
  pub front : IsCarriedFront b offset version base kept after rest
  pub crash : AreWrittenAt (at_checkpoint version base b offset) (Checkpoint kept ∷ after) xs written

-- wherever a stood, b stands behind these records too, and holds their frames
abbrev pub GrowsBy : Growth → Growth → List Record → Type 0
GrowsBy a b ys = (at : Place) (rs xs : List Record) → IsGrownAt at rs xs a → IsGrownAt at rs (xs ++ ys) b

-- wherever a stood, the record is refused
abbrev pub StopsGrowing : Growth → Record → NotTaken → Type 0
StopsGrowing a r why = (at : Place) (rs xs : List Record) → IsGrownAt at rs xs a → IsRefused at (rs ++ xs) r why

-- wherever a stood, b stands
abbrev pub StaysGrown : Growth → Growth → Type 0
StaysGrown a b = (at : Place) (rs xs : List Record) → IsGrownAt at rs xs a → IsGrownAt at rs xs b
