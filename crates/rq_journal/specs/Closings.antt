-- A carried file that is closed by what was gathered behind its front.
use Rattle.std.specs.Prelude.{◌≡◌, ℕ, List, [], ◌++◌, take}
use Rattle.rq_model.specs.Records.{Record, Version}
use Rattle.rq_model.specs.Frames.{HasHeader}
use Rattle.rq_model.specs.States.{State}
use Rattle.rq_model.specs.Carrying.{HasCarriedHeader, IsCarriedFront, as_log}
use Rattle.rq_journal.specs.declared.growths.Growth.{Growth}

-- the bytes of b up to the end of the front, and the frames behind them: all else is dropped
abbrev pub with_frames : List ℕ → Growth → List ℕ
with_frames b g = take g.end.used b ++ g.frames.items

-- the carried file that is read as this log: it has a header of its own
abbrev pub IsFileOf : List ℕ → List ℕ → Type 0
IsFileOf log file = (version : Version) → HasHeader version log
    → HasCarriedHeader version file × (as_log version file ≡ log)

-- of carried files that are read as the logs b and c, from the checkpoint at an offset: the front of c
-- is that of b and these records, and nothing stands behind it
pub record IsClosedFrom (b : List ℕ) (offset : ℕ) (xs : List Record) (c : List ℕ) : Type 0 where
  pub version : Version
  pub base : State
  pub kept : List ℕ
  pub after : List Record
  pub rest : List ℕ
  pub front : IsCarriedFront b offset version base kept after rest
  pub whole : IsCarriedFront c offset version base kept (after ++ xs) []
