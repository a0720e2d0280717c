-- How a manager goes on in another file.
use Rattle.std.specs.Prelude.{◌≡◌, ◌≤◌, ◌<◌, ⊤, ℕ, true, List, ◌++◌}
use Rattle.rq_model.specs.Records.{Record}
use Rattle.rq_model.specs.Spelling.{body_of}
use Rattle.rq_model.specs.Frames.{digest, frame}
use Rattle.rq_model.specs.StateSpelling.{carried_next}
use Rattle.rq_model.specs.Appending.{FitsCheckpoint}
use Rattle.rq_model.specs.Carrying.{carried_file}
use Rattle.rq_record.specs.Views.{version_of}
use Rattle.rq_live.specs.declared.kernel.Kernel.{Kernel}
use Rattle.rq_live.specs.declared.carries.NotCarried.{NotCarried}
use Rattle.rq_live.specs.declared.carries.NotCarried.TheVariants.{Large, Ended, Unmade, Resources, Spent}
use Rattle.rq_live.specs.Starts.{Start, state_reached, checkpoint_in, carried_behind, begun_behind}
use Rattle.rq_live.specs.Kernels.{IsKernelBehind, HasRoomForEnds}
use Rattle.rq_live.specs.Managers.{Stand, IsManaged, IsSafe}

-- these bytes begin the file in which the log goes on from where the kernel stands, a checkpoint of its
-- state behind its last 32 bytes; and these are their last 32
pub record BeginsBehind (k : Kernel) (first end : List ℕ) : Type 0 where
  pub fits : FitsCheckpoint k.machine
  pub few : k.machine.next ≤ carried_next
  pub bytes : first ≡ carried_file (version_of k.version) k.last (frame k.last (body_of (checkpoint_in k.machine)))
  pub last : end ≡ digest k.last (body_of (checkpoint_in k.machine))

-- why no file goes on from these records
abbrev pub IsWhyNotCarried : Start → List Record → NotCarried → Type 0
IsWhyNotCarried from rs Large = FitsCheckpoint (state_reached from rs) → ⊥
IsWhyNotCarried from rs Ended = carried_next < (state_reached from rs).next
IsWhyNotCarried from rs Unmade = ⊤
IsWhyNotCarried from rs Resources = ⊤
IsWhyNotCarried from rs Spent = ⊤

-- so it is wherever the kernel stands
abbrev pub KernelIsKept : Kernel → NotCarried → Type 0
KernelIsKept k why = (from : Start) (rs : List Record) (w : List ℕ) → IsKernelBehind from rs w k
    → IsWhyNotCarried from rs why

-- wherever a stood, b stands behind the checkpoint in the file that these bytes begin
abbrev pub KernelGoesOver : Kernel → Kernel → List ℕ → Type 0
KernelGoesOver a b bytes = (from : Start) (rs : List Record) (w : List ℕ) → IsKernelBehind from rs w a
    → IsKernelBehind (carried_behind from rs) (begun_behind from rs) bytes b
    × HasRoomForEnds (carried_behind from rs) (begun_behind from rs)

-- what follows in the other file leads to the state to which it would have led in this one
abbrev pub GoesOnAsOne : Start → List Record → Type 0
GoesOnAsOne from rs = (xs : List Record) → state_reached (carried_behind from rs) (begun_behind from rs ++ xs)
    ≡ state_reached from (rs ++ (begun_behind from rs ++ xs))

-- wherever a stood, b stands behind a checkpoint of the state there, in a carried file that goes on
-- from these records, and all is safe
abbrev pub StandsOver : Stand → Stand → Type 0
StandsOver a b = (from : Start) (rs : List Record) → IsManaged from rs a
    → IsManaged (carried_behind from rs) (begun_behind from rs) b
    × IsSafe (carried_behind from rs) (begun_behind from rs) b

-- and what follows goes on as one, and so many records were done
abbrev pub GoesOver : Stand → Stand → ℕ → Type 0
GoesOver a b count = (from : Start) (rs : List Record) → IsManaged from rs a
    → IsManaged (carried_behind from rs) (begun_behind from rs) b
    × IsSafe (carried_behind from rs) (begun_behind from rs) b
    × GoesOnAsOne from rs × (count ≡ (state_reached from rs).next)

-- why a log in which all is safe is not carried on: b is spent; or it stands where a stood
abbrev pub StaysSafe : Stand → Stand → NotCarried → Type 0
StaysSafe a b Spent = b.spent ≡ true
StaysSafe a b why = (from : Start) (rs : List Record) → IsManaged from rs a → IsSafe from rs a
    → IsManaged from rs b × IsSafe from rs b × IsWhyNotCarried from rs why

-- why a log is not carried on: b is spent; or it stands where a stood, and all is safe
abbrev pub StopsCarry : Stand → Stand → NotCarried → Type 0
StopsCarry a b Spent = b.spent ≡ true
StopsCarry a b why = (from : Start) (rs : List Record) → IsManaged from rs a
    → IsManaged from rs b × IsSafe from rs b × IsWhyNotCarried from rs why
