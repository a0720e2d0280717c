-- An upgraded log, and what it says about the log that was upgraded.
use Rattle.std.specs.Prelude.{◌≡◌, ◌↔◌, ℕ, List, []}
use Rattle.rq_model.specs.Records.{Record, Version, Two}
use Rattle.rq_model.specs.Frames.{log_of, Whole, AreBytes}
use Rattle.rq_model.specs.Fronts.{Ends, IsFront, Restarted, IsRestart}
use Rattle.rq_model.specs.Checkpoints.{HasCheckpoint, TrueAt, Audited, IsAudit, IsRestartAt}
use Rattle.rq_model.specs.Closing.{HasReport}

-- The front of b, chained anew after the header of version 2
pub record IsUpgraded (b upgraded : List ℕ) : Type 0 where
  pub version : Version
  pub records : List Record
  pub rest : List ℕ
  pub front : IsFront b version records rest
  pub bytes : upgraded ≡ log_of Two records

-- what a restart of an upgraded log returns: the same, and all of it is front
abbrev pub when_upgraded : Restarted → Restarted
when_upgraded r = record r { total = r.used; why = Ends Whole }

-- An upgraded log has the restart of b, and is whole. Both reports have the same queue lines. The
-- same checkpoints are at the same offsets, and the same of them are true. From each true one the
-- restart is the same, and whole. Upgrading it again changes nothing
pub record SaysTheSame (b upgraded : List ℕ) : Type 0 where
  pub found : Restarted
  pub restart : IsRestart b found
  pub whole : IsRestart upgraded (when_upgraded found)
  pub queues : List ℕ
  pub report : HasReport b found queues
  pub reported : HasReport upgraded (when_upgraded found) queues
  pub offsets : (offset : ℕ) (records : List Record) (kept : List ℕ) →
      HasCheckpoint b offset records kept ↔ HasCheckpoint upgraded offset records kept
  pub truths : (offset : ℕ) → TrueAt b offset ↔ TrueAt upgraded offset
  pub audit : (found : List Audited) → IsAudit b found → IsAudit upgraded found
  pub from : (offset : ℕ) (r : Restarted) → TrueAt b offset
      → IsRestartAt b offset r → IsRestartAt upgraded offset (when_upgraded r)
  pub again : (twice : List ℕ) → IsUpgraded upgraded twice → twice ≡ upgraded

-- An upgraded log is its front, that of b, in version 2; and it says the same as b
pub record UpgradeIsSame : Type 0 where
  pub front : (b upgraded : List ℕ) (version : Version) (records : List Record) (rest : List ℕ) →
      IsUpgraded b upgraded → IsFront b version records rest → IsFront upgraded Two records []
  pub same : (b upgraded : List ℕ) → AreBytes b → IsUpgraded b upgraded → SaysTheSame b upgraded
