-- What is found of a manager's log after a crash, to go on from.
use Rattle.std.specs.Prelude.{◌≡◌, ⊤, ℕ, Bool, true, false, List, ◌∷◌, ◌++◌, length, take, drop, Some, None, Option, Result, Ok, Err}
use Rattle.rq_model.specs.Records.{Record, Commit, Version}
use Rattle.rq_model.specs.Frames.{log_of, start, last_of}
use Rattle.rq_model.specs.States.{State, empty}
use Rattle.rq_model.specs.Machine.{outcome_from, run, Committed}
use Rattle.rq_model.specs.Appending.{AreWhole}
use Rattle.rq_model.specs.Fronts.{IsFront, IsWhy}
use Rattle.rq_record.specs.Views.{version_of}
use Rattle.rq_record.specs.declared.fault.Fault.{Fault}
use Rattle.rq_front.specs.Chains.{Refused}
use Rattle.rq_record.specs.declared.version.Version as rt
use Rattle.rq_judged.specs.declared.ends.Edge.{Edge}
use Rattle.rq_judged.specs.Views.{why_of}
use Rattle.rq_restart.specs.declared.redone.RedoneFront.{RedoneFront}
use Rattle.rq_journal.specs.LeftBehind.{IsDamage, IsLeftByCrash}
use Rattle.rq_journal.specs.declared.left_behind.Damage.{Damage}
use Rattle.rq_record.specs.declared.fault.Fault.TheVariants.{Resources}
use Rattle.rq_device.specs.Devices.{CrashLeaves}
use Rattle.rq_live.specs.Kernels.{IsKernelBehind}
use Rattle.rq_live.specs.Starts.{Plain}
use Rattle.rq_live.specs.Managers.{Stand, IsManaged, IsSafe}
use Rattle.rq_reopen.specs.Reopenings.{IsNoMishap}
use Rattle.rq_reopen.specs.declared.found_log.FoundLog.{FoundLog}
use Rattle.rq_reopen.specs.declared.openings.Opening.{Opening}
use Rattle.rq_reopen.specs.declared.openings.NotOpened.{NotOpened}
use Rattle.rq_reopen.specs.declared.openings.NotOpened.TheVariants.{Log, Damaged}

-- a front, and the state behind it
abbrev pub front_with : rt.Version → State → List ℕ → Edge → RedoneFront
front_with version s last end = record { version = version; state = s; last = last; end = end }

-- the kernel stands behind the front of c
pub record IsFound (c : List ℕ) (l : FoundLog) : Type 0 where
  pub records : List Record
  pub front : IsFront c (version_of l.version) records (drop l.end.used c)
  pub ends : IsWhy (version_of l.version) (run empty records) (last_of (start (version_of l.version)) records)
      (drop l.end.used c) (why_of l.end.why)
  pub used : l.end.used ≡ length (log_of (version_of l.version) records)
  pub count : l.end.records ≡ length records
  pub at : IsKernelBehind (Plain (version_of l.version)) records (log_of (version_of l.version) records) l.kernel

-- that, or why c is refused
abbrev pub Finds : List ℕ → Result FoundLog Fault → Type 0
Finds c (Ok l) = IsFound c l
Finds c (Err e) = Refused c e

-- the kernel stands behind these records and others; a unit that committed among these is committed
pub record GoesOnBehind (version : Version) (rs : List Record) (l : FoundLog) : Type 0 where
  pub others : List Record
  pub same : version_of l.version ≡ version
  pub at : IsKernelBehind (Plain version) (rs ++ others) (log_of version (rs ++ others)) l.kernel
  pub committed : (before after : List Record) (unit : ℕ) → rs ≡ before ++ Commit unit ∷ after
      → outcome_from 0 unit (rs ++ others) ≡ Committed (length before)

-- For each manager that was, if a crash of its device may leave the bytes c, the kernel goes on from
-- all that was safe
abbrev pub GoesOnAt : List ℕ → FoundLog → Type 0
GoesOnAt c l =
    (version : Version) (rs : List Record) (m : Stand) (w : List ℕ) →
    IsManaged (Plain version) rs m → IsSafe (Plain version) rs m → m.written ≡ Some w
    → CrashLeaves m.written m.synced c → GoesOnBehind version rs l

-- the kernel stands behind the records whose frames are whole in c, the first of these, and no others
pub record IsBeginningFound (version : Version) (rs : List Record) (c : List ℕ) (l : FoundLog) : Type 0 where
  pub count : ℕ
  pub whole : AreWhole (start version) rs (drop 40 c) count
  pub at : IsKernelBehind (Plain version) (take count rs) (log_of version (take count rs)) l.kernel

-- For each manager that was, if the bytes c begin what it wrote, the kernel stands behind the first of
-- its records
abbrev pub IsExactlyFound : List ℕ → FoundLog → Type 0
IsExactlyFound c l =
    (version : Version) (rs : List Record) (m : Stand) (w missing : List ℕ) →
    IsManaged (Plain version) rs m → m.written ≡ Some w → w ≡ c ++ missing → IsBeginningFound version rs c l

-- what stands behind the front is what a crash can leave; or, if it is to be dropped, this damage
abbrev pub MayBeCut : List ℕ → FoundLog → Bool → Option Damage → Type 0
MayBeCut c l drops None = IsLeftByCrash (version_of l.version) c l.end.used (why_of l.end.why)
MayBeCut c l drops (Some damage) = (drops ≡ true) × IsDamage c l.end.used (why_of l.end.why) damage

-- what stands behind the front is handed back, with what is known of it
abbrev pub CutsBehind : List ℕ → FoundLog → Option Damage → Result Opening NotOpened → Type 0
CutsBehind c l damage (Ok o) = (o.found ≡ l) × (o.cut.items ≡ drop l.end.used c) × (o.damage ≡ damage)
CutsBehind c l damage (Err (Log fault)) = fault ≡ Resources
CutsBehind c l damage (Err (Damaged found _)) = ⊥

-- c is opened behind this front; or it is not, since damage stands there that is not to be dropped, or
-- memory was refused
abbrev pub OpensBehind : List ℕ → FoundLog → Bool → Result Opening NotOpened → Type 0
OpensBehind c l drops (Ok o) = (o.found ≡ l) × (o.cut.items ≡ drop l.end.used c) × MayBeCut c l drops o.damage
OpensBehind c l drops (Err (Log fault)) = fault ≡ Resources
OpensBehind c l drops (Err (Damaged found damage)) = (found ≡ l) × (drops ≡ false)
    × IsDamage c l.end.used (why_of l.end.why) damage

-- how c is opened, or why it is not
abbrev pub OpensLog : List ℕ → Bool → Result Opening NotOpened → Type 0
OpensLog c drops (Ok o) = IsFound c o.found × (o.cut.items ≡ drop o.found.end.used c)
    × MayBeCut c o.found drops o.damage
OpensLog c drops (Err (Log fault)) = Refused c fault
OpensLog c drops (Err (Damaged found damage)) = IsFound c found × (drops ≡ false)
    × IsDamage c found.end.used (why_of found.end.why) damage

-- whatever c is refused for, a log that was safe is never refused as none
abbrev pub IsNotShut : List ℕ → NotOpened → Type 0
IsNotShut c (Log fault) = IsNoMishap c fault
IsNotShut c (Damaged found damage) = ⊤
