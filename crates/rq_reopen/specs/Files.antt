-- What is found after a crash of the file of a manager, whether that is a log or a carried file.
use Rattle.std.specs.Prelude.{◌≡◌, ◌+◌, ◌⊎◌, ⊤, ℕ, Bool, false, List, ◌∷◌, ◌++◌, length, take, drop, Some}
use Rattle.std.specs.Prelude.{Result, Ok, Err}
use Rattle.rq_model.specs.Records.{Record, Checkpoint, Commit, Version}
use Rattle.rq_model.specs.Frames.{frames_of, last_of, before}
use Rattle.rq_model.specs.States.{State}
use Rattle.rq_model.specs.Machine.{run, outcome_from, Committed}
use Rattle.rq_model.specs.Fronts.{IsWhy}
use Rattle.rq_model.specs.Appending.{AreWhole}
use Rattle.rq_model.specs.Carrying.{IsCarriedFront, HasCarriedHeader, as_log, carried_at}
use Rattle.rq_record.specs.Views.{version_of}
use Rattle.rq_record.specs.declared.fault.Fault.{Fault}
use Rattle.rq_record.specs.declared.fault.Fault.TheVariants.{Resources, TooLong}
use Rattle.rq_front.specs.Chains.{IsCarried}
use Rattle.rq_judged.specs.Refusals.{RefusedCarried}
use Rattle.rq_judged.specs.Views.{why_of}
use Rattle.rq_journal.specs.LeftBehind.{IsDamage}
use Rattle.rq_device.specs.Devices.{CrashLeaves}
use Rattle.rq_live.specs.Starts.{Start, Carried, rules_of, base_of, link_of, bytes_ahead, file_of}
use Rattle.rq_live.specs.Kernels.{IsKernelBehind}
use Rattle.rq_live.specs.Managers.{Stand, IsManaged, IsSafe}
use Rattle.rq_reopen.specs.Openings.{IsFound, MayBeCut, OpensLog}
use Rattle.rq_reopen.specs.declared.found_log.FoundLog.{FoundLog}
use Rattle.rq_reopen.specs.declared.openings.Opening.{Opening}
use Rattle.rq_reopen.specs.declared.openings.NotOpened.{NotOpened}
use Rattle.rq_reopen.specs.declared.openings.NotOpened.TheVariants.{Log, Damaged}

-- where the records of b begin, as which a carried file is read, if its first frame spells this state
abbrev pub begins_in : Version → List ℕ → State → Start
begins_in version b base = Carried version (before carried_at b) base

-- the kernel stands behind the front of b from its first frame on
pub record IsCarriedFound (b : List ℕ) (l : FoundLog) : Type 0 where
  pub base : State
  pub kept : List ℕ
  pub after : List Record
  pub front : IsCarriedFront b carried_at (version_of l.version) base kept after (drop l.end.used b)
  pub ends : IsWhy (version_of l.version) (run base (Checkpoint kept ∷ after))
      (last_of (before carried_at b) (Checkpoint kept ∷ after)) (drop l.end.used b) (why_of l.end.why)
  pub used : l.end.used ≡ carried_at + length (frames_of (before carried_at b) (Checkpoint kept ∷ after))
  pub count : l.end.records ≡ length (Checkpoint kept ∷ after)
  pub at : IsKernelBehind (begins_in (version_of l.version) b base) (Checkpoint kept ∷ after)
      (file_of (begins_in (version_of l.version) b base) (Checkpoint kept ∷ after)) l.kernel

-- that, or why b is refused
abbrev pub FindsFrom : List ℕ → Result FoundLog Fault → Type 0
FindsFrom b (Ok l) = IsCarriedFound b l
FindsFrom b (Err e) = RefusedCarried b carried_at e

-- how b is opened, or why it is not
abbrev pub OpensFrom : List ℕ → Bool → Result Opening NotOpened → Type 0
OpensFrom b drops (Ok o) = IsCarriedFound b o.found × (o.cut.items ≡ drop o.found.end.used b)
    × MayBeCut b o.found drops o.damage
OpensFrom b drops (Err (Log fault)) = RefusedCarried b carried_at fault
OpensFrom b drops (Err (Damaged found damage)) = IsCarriedFound b found × (drops ≡ false)
    × IsDamage b found.end.used (why_of found.end.why) damage

-- c is no carried file, and is opened as a log; or it is one, and is opened as it is read
abbrev pub OpensFile : List ℕ → Bool → Result Opening NotOpened → Type 0
OpensFile c drops result = ((IsCarried c → ⊥) × OpensLog c drops result)
    ⊎ ((version : Version) × HasCarriedHeader version c × OpensFrom (as_log version c) drops result)

-- so c is found
abbrev pub IsFoundIn : List ℕ → FoundLog → Type 0
IsFoundIn c l = IsFound c l
    ⊎ ((version : Version) × HasCarriedHeader version c × IsCarriedFound (as_log version c) l)

-- the kernel stands behind these records and others; a unit that committed among these is committed
pub record GoesOnIn (from : Start) (rs : List Record) (l : FoundLog) : Type 0 where
  pub others : List Record
  pub same : version_of l.version ≡ rules_of from
  pub at : IsKernelBehind from (rs ++ others) (file_of from (rs ++ others)) l.kernel
  pub committed : (before after : List Record) (unit : ℕ) → rs ≡ before ++ Commit unit ∷ after
      → outcome_from (base_of from).next unit (rs ++ others) ≡ Committed ((base_of from).next + length before)

-- For each manager that was, of a log or of a carried file, if a crash of its device may leave the
-- bytes c, the kernel goes on from all that was safe
abbrev pub GoesOnAnywhere : List ℕ → FoundLog → Type 0
GoesOnAnywhere c l =
    (from : Start) (rs : List Record) (m : Stand) (w : List ℕ) →
    IsManaged from rs m → IsSafe from rs m → m.written ≡ Some w
    → CrashLeaves m.written m.synced c → GoesOnIn from rs l

-- the kernel stands behind the records whose frames are whole in c, the first of these, and no others
pub record IsBeginningIn (from : Start) (rs : List Record) (c : List ℕ) (l : FoundLog) : Type 0 where
  pub count : ℕ
  pub whole : AreWhole (link_of from) rs (drop (length (bytes_ahead from)) c) count
  pub at : IsKernelBehind from (take count rs) (file_of from (take count rs)) l.kernel

-- For each manager that was, if the bytes c begin what it wrote, the kernel stands behind the first of
-- its records
abbrev pub IsExactlyIn : List ℕ → FoundLog → Type 0
IsExactlyIn c l =
    (from : Start) (rs : List Record) (m : Stand) (w missing : List ℕ) →
    IsManaged from rs m → m.written ≡ Some w → w ≡ c ++ missing → IsBeginningIn from rs c l

-- the faults for which a file that was safe may be refused
abbrev pub MayRefuse : Fault → Type 0
MayRefuse TooLong = ⊤
MayRefuse Resources = ⊤
MayRefuse _ = ⊥

-- whatever c is refused for, a file that was safe is never refused as none, nor for its first frame
abbrev pub IsNotShutIn : List ℕ → NotOpened → Type 0
IsNotShutIn c (Log fault) =
    (from : Start) (rs : List Record) (m : Stand) (w : List ℕ) →
    IsManaged from rs m → IsSafe from rs m → m.written ≡ Some w
    → CrashLeaves m.written m.synced c → MayRefuse fault
IsNotShutIn c (Damaged found damage) = ⊤
