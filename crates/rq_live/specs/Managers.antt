-- How a manager stands over its device, and what a call does.
use Rattle.std.specs.Prelude.{◌≡◌, ◌≤◌, ◌+◌, length, ℕ, Bool, true, false, List, [], ◌∷◌, ◌++◌, Option, Some, None}
use Rattle.std.specs.Prelude.{option_map}
use Rattle.std.specs.Prelude.{◌==◌, ◌&&◌, filter}
use Rattle.std.specs.List.{find, list_any}
use Rattle.std.specs.List.Sorted.{IsPermutation}
use Rattle.rq_model.specs.Records.{By, Record, Begin, Dequeue, Commit, Kill}
use Rattle.rq_model.specs.States.{State, Element, Last, Definition, Registrant, is_registrant}
use Rattle.rq_model.specs.Machine.{is_lawful, is_open, is_free_at, aborts, best, run}
use Rattle.rq_model.specs.Queues.{registrants_at}
use Rattle.rq_model.specs.Appending.{FitsCheckpoint, with_checkpoint}
use Rattle.rq_model.specs.StateSpelling.{carried_next}
use Rattle.rq_model.specs.Checkpoints.{TrueAt}
use Rattle.rq_model.specs.Carrying.{IsCarriedRestart, as_log, carried_at}
use Rattle.rq_model.specs.Fronts.{Restarted}
use Rattle.rq_record.specs.declared.record.ElemId.{ElemId}
use Rattle.rq_state.specs.Views.{id_of}
use Rattle.rq_queue.specs.Firsts.{AreFirst}
use Rattle.rq_standing.specs.Stands.{taken}
use Rattle.rq_device.specs.Devices.{AreStored, AreUnsynced, IsAllSynced, KeepsSynced}
use Rattle.rq_live.specs.declared.kernel.Kernel.{Kernel}
use Rattle.rq_live.specs.declared.kernel.NotDone.{NotDone}
use Rattle.rq_live.specs.declared.kernel.NotDone.TheVariants.{Unlawful, Full, Large, Ended, Spent}
use Rattle.rq_live.specs.declared.manager.Manager.{Manager}
use Rattle.rq_live.specs.Starts.{Start, Plain, Carried, rules_of, file_of, state_reached, checkpoint_in}
use Rattle.rq_live.specs.Kernels.{IsKernelBehind, HasRoomForEnds, HasNoRoom, IsWhyNotTaken}

-- a manager, and what is known of its device
pub record Stand : Type 0 where
  pub written : Option (List ℕ)
  pub synced : ℕ
  pub doubted : Bool
  pub failed : Bool
  pub spent : Bool
  pub kernel : Kernel

abbrev pub stand_of : {D : Type 0} → (D → Option (List ℕ)) → (D → ℕ) → (D → Bool) → (D → Bool) → Manager D → Stand
stand_of written synced doubted failed m = record {
  written = written m.device;
  synced = synced m.device;
  doubted = doubted m.device;
  failed = failed m.device;
  spent = m.spent;
  kernel = m.kernel;
}

-- its device works, and all that was written survives a crash
abbrev pub Serves : Stand → Type 0
Serves m = (m.failed ≡ false) × (m.doubted ≡ false) × IsAllSynced m.written m.synced

-- it is not spent, its device serves, and it stands behind these lawful records: the bytes of their
-- log that are not pending were written, and there is room for the end of each open unit
pub record IsManaged (from : Start) (rs : List Record) (m : Stand) : Type 0 where
  pub unspent : m.spent ≡ false
  pub serves : Serves m
  pub bytes : List ℕ
  pub known : AreStored m.written bytes
  pub at : IsKernelBehind from rs bytes m.kernel
  pub room : HasRoomForEnds from rs

-- At most 1,048,576 bytes that were written are not synced, also if it is spent; if it is not, its
-- device serves
abbrev pub KeepsWindow : Stand → Type 0
KeepsWindow m = AreUnsynced 1048576 m.written m.synced × (m.spent ≡ false → Serves m)

-- and at most as many are pending
abbrev pub IsInOrder : Stand → Type 0
IsInOrder m = KeepsWindow m × (m.spent ≡ false → length m.kernel.pending.items ≤ 1048576)

-- wherever a stood, the record is lawful there, and b stands behind it
abbrev pub Does : Stand → Stand → Record → Type 0
Does a b r = (from : Start) (rs : List Record) → IsManaged from rs a
    → IsManaged from (rs ++ r ∷ []) b × (is_lawful (rules_of from) (state_reached from rs) r ≡ true)

-- and it takes this element there
abbrev pub DoesTaking : Stand → Stand → Record → Option ElemId → Type 0
DoesTaking a b r id = (from : Start) (rs : List Record) → IsManaged from rs a
    → IsManaged from (rs ++ r ∷ []) b × (is_lawful (rules_of from) (state_reached from rs) r ≡ true)
    × (id_of id ≡ taken (state_reached from rs) r)

-- and this is the number of its element there
abbrev pub Enqueues : Stand → Stand → Record → ℕ → Type 0
Enqueues a b r id = (from : Start) (rs : List Record) → IsManaged from rs a
    → IsManaged from (rs ++ r ∷ []) b × (is_lawful (rules_of from) (state_reached from rs) r ≡ true)
    × (id ≡ (state_reached from rs).next)

-- wherever a stood, the DEQUEUE is lawful there, b stands behind it, and this is the element that it
-- takes, as it was
abbrev pub Dequeues : Stand → Stand → ℕ → ℕ → Option By → Option Element → Type 0
Dequeues a b unit queue by e = (from : Start) (rs : List Record) → IsManaged from rs a
    → IsManaged from (rs ++ Dequeue unit queue by ∷ []) b
    × (is_lawful (rules_of from) (state_reached from rs) (Dequeue unit queue by) ≡ true)
    × (e ≡ best queue (state_reached from rs).elements)

-- wherever a stood, b stands
abbrev pub StandsStill : Stand → Stand → Type 0
StandsStill a b = (from : Start) (rs : List Record) → IsManaged from rs a → IsManaged from rs b

-- wherever a stood, the record is lawful, and b stands there
abbrev pub StandsLawful : Stand → Stand → Record → Type 0
StandsLawful a b r = (from : Start) (rs : List Record) → IsManaged from rs a
    → IsManaged from rs b × (is_lawful (rules_of from) (state_reached from rs) r ≡ true)

-- the best free element is taken; or the DEQUEUE is lawful, no element is free, and nothing is done
abbrev pub DequeuesIfFree : Stand → Stand → ℕ → ℕ → Option By → Option Element → Type 0
DequeuesIfFree a b unit queue by (Some e) = Dequeues a b unit queue by (Some e)
DequeuesIfFree a b unit queue by None = StandsLawful a b (Dequeue unit queue by)
    × ((from : Start) (rs : List Record) → IsManaged from rs a → best queue (state_reached from rs).elements ≡ None)

-- the queue has this element there, and it is free
abbrev pub is_free_in : State → ℕ → ℕ → Bool
is_free_in s queue element = list_any (λ e. is_free_at queue e && (e.id == element)) s.elements

-- the element is free there, and is killed; or the KILL is lawful, it is not free, and nothing is done
abbrev pub KillsIfFree : Stand → Stand → ℕ → ℕ → Bool → Type 0
KillsIfFree a b queue element true = Does a b (Kill queue element)
    × ((from : Start) (rs : List Record) → IsManaged from rs a
    → is_free_in (state_reached from rs) queue element ≡ true)
KillsIfFree a b queue element false = StandsLawful a b (Kill queue element)
    × ((from : Start) (rs : List Record) → IsManaged from rs a
    → is_free_in (state_reached from rs) queue element ≡ false)

-- why the record is not taken: b is spent, or it stands where a stood
abbrev pub ManagerStops : Stand → Stand → Record → NotDone → Type 0
ManagerStops a b r Spent = b.spent ≡ true
ManagerStops a b r Large = ⊥
ManagerStops a b r Ended = ⊥
ManagerStops a b r why = (from : Start) (rs : List Record) → IsManaged from rs a
    → IsManaged from rs b × IsWhyNotTaken from rs r why

-- why a unit does not end: never for want of room
abbrev pub StopsEnd : Stand → Stand → Record → NotDone → Type 0
StopsEnd a b r Full = (from : Start) (rs : List Record) → IsManaged from rs a → ⊥
StopsEnd a b r why = ManagerStops a b r why

-- the unit is the next one, and its BEGIN is done
abbrev pub BeginsUnit : Stand → Stand → ℕ → Type 0
BeginsUnit a b unit = (from : Start) (rs : List Record) → IsManaged from rs a
    → IsManaged from (rs ++ Begin unit ∷ []) b × (unit ≡ (state_reached from rs).greatest + 1)

-- why no unit begins: all numbers were used, or there is no room
abbrev pub StopsBegin : Stand → Stand → NotDone → Type 0
StopsBegin a b Spent = b.spent ≡ true
StopsBegin a b Large = ⊥
StopsBegin a b (Unlawful rule) = (from : Start) (rs : List Record) → IsManaged from rs a → ⊥
StopsBegin a b Ended = (from : Start) (rs : List Record) → IsManaged from rs a
    → IsManaged from rs b × ((state_reached from rs).greatest ≡ 18446744073709551615)
StopsBegin a b Full = (from : Start) (rs : List Record) → IsManaged from rs a
    → IsManaged from rs b × HasNoRoom from rs (Begin ((state_reached from rs).greatest + 1))

-- all of the log was written and synced
pub record IsSafe (from : Start) (rs : List Record) (m : Stand) : Type 0 where
  pub written : AreStored m.written (file_of from rs)
  pub synced : IsAllSynced m.written m.synced

-- wherever a stood, b stands, and all is safe
abbrev pub Settles : Stand → Stand → Type 0
Settles a b = (from : Start) (rs : List Record) → IsManaged from rs a
    → IsManaged from rs b × IsSafe from rs b

-- wherever it stands, all is safe
abbrev pub AllIsSafe : Stand → Type 0
AllIsSafe m = (from : Start) (rs : List Record) → IsManaged from rs m → IsSafe from rs m

-- whatever a crash may leave of b, it could have left of a
abbrev pub KeepsSafe : Stand → Stand → Type 0
KeepsSafe a b = KeepsSynced a.written a.synced b.written b.synced

-- wherever a stood, the COMMIT is lawful there, b stands behind it, and all is safe
abbrev pub Commits : Stand → Stand → ℕ → Type 0
Commits a b unit = (from : Start) (rs : List Record) → IsManaged from rs a
    → IsManaged from (rs ++ Commit unit ∷ []) b × IsSafe from (rs ++ Commit unit ∷ []) b
    × (is_lawful (rules_of from) (state_reached from rs) (Commit unit) ≡ true)

-- wherever a stood, b stands behind a checkpoint of the state there, at this offset
abbrev pub MarksState : Stand → Stand → ℕ → Type 0
MarksState a b offset = (from : Start) (rs : List Record) → IsManaged from rs a
    → IsManaged from (rs ++ checkpoint_in (state_reached from rs) ∷ []) b × FitsCheckpoint (state_reached from rs)
    × (offset ≡ length (file_of from rs)) × ((state_reached from rs).next ≤ carried_next)

-- it says what the records before it came to: in a log it is true; in a carried file, as that is read,
-- a restart from it is one from the file's first frame
abbrev pub IsTrueIn : Start → List Record → ℕ → Type 0
IsTrueIn (Plain version) rs offset = TrueAt (with_checkpoint version rs) offset
IsTrueIn (Carried version link s) rs offset = (r : Restarted) →
    IsCarriedRestart (as_log version (file_of (Carried version link s) (rs ++ checkpoint_in (run s rs) ∷ [])))
    carried_at r
    → IsCarriedRestart (as_log version (file_of (Carried version link s) (rs ++ checkpoint_in (run s rs) ∷ []))) offset
    r

-- and all is safe, and the checkpoint true
abbrev pub MarksSafely : Stand → Stand → ℕ → Type 0
MarksSafely a b offset = (from : Start) (rs : List Record) → IsManaged from rs a
    → IsManaged from (rs ++ checkpoint_in (state_reached from rs) ∷ []) b
    × IsSafe from (rs ++ checkpoint_in (state_reached from rs) ∷ []) b
    × (offset ≡ length (file_of from rs)) × IsTrueIn from rs offset

-- why there is no checkpoint
abbrev pub StopsMark : Stand → Stand → NotDone → Type 0
StopsMark a b Spent = b.spent ≡ true
StopsMark a b (Unlawful rule) = (from : Start) (rs : List Record) → IsManaged from rs a → ⊥
StopsMark a b why = (from : Start) (rs : List Record) → IsManaged from rs a
    → IsManaged from rs b × IsWhyNotTaken from rs (checkpoint_in (state_reached from rs)) why

-- wherever a stood, b stands behind the ABORTs of the units that were open there
abbrev pub AbortsAll : Stand → Stand → Type 0
AbortsAll a b = (from : Start) (rs : List Record) → IsManaged from rs a
    → IsManaged from (rs ++ aborts (state_reached from rs)) b

-- Whatever bytes stood on the device of a, if they begin with the log behind which its kernel stood, b
-- stands behind that
abbrev pub Secures : Stand → Stand → Type 0
Secures a b = (from : Start) (rs : List Record) (rest : List ℕ) →
    IsKernelBehind from rs (file_of from rs) a.kernel → AreStored a.written (file_of from rs ++ rest)
    → IsManaged from rs b

-- Whatever bytes stood on the device of a, if they begin with the log behind which its kernel stood, b
-- stands behind that and the ABORTs of the units that are open there, and all is safe
abbrev pub Resumes : Stand → Stand → Type 0
Resumes a b = (from : Start) (rs : List Record) (rest : List ℕ) →
    IsKernelBehind from rs (file_of from rs) a.kernel → AreStored a.written (file_of from rs ++ rest)
    → IsManaged from (rs ++ aborts (state_reached from rs)) b × IsSafe from (rs ++ aborts (state_reached from rs)) b

-- why it does not go on: it is spent, or there is no room for the ABORTs, and the device is as it was
abbrev pub StopsResume : Stand → Stand → NotDone → Type 0
StopsResume a b Spent = b.spent ≡ true
StopsResume a b Full = (b.spent ≡ true) × (b.written ≡ a.written) × (b.synced ≡ a.synced)
    × ((from : Start) (rs : List Record) (w : List ℕ) → IsKernelBehind from rs w a.kernel
    → HasRoomForEnds from rs → ⊥)
StopsResume a b why = ⊥

-- wherever it stands, its log has so many bytes
abbrev pub IsLength : Stand → ℕ → Type 0
IsLength m len = (from : Start) (rs : List Record) → IsManaged from rs m → len ≡ length (file_of from rs)

-- wherever it stands, this is the last operation of who is registered with the queue by the name
abbrev pub IsLastOf : Stand → ℕ → List ℕ → Option (Option Last) → Type 0
IsLastOf m queue name l = (from : Start) (rs : List Record) → IsManaged from rs m
    → l ≡ option_map (λ r. r.last) (find (is_registrant queue name) (state_reached from rs).registrants)

-- wherever it stands, these are the open units
abbrev pub AreOpen : Stand → List ℕ → Type 0
AreOpen m units = (from : Start) (rs : List Record) → IsManaged from rs m
    → units ≡ (state_reached from rs).units

-- wherever it stands, these are the queues
abbrev pub AreDefined : Stand → List Definition → Type 0
AreDefined m definitions = (from : Start) (rs : List Record) → IsManaged from rs m
    → definitions ≡ (state_reached from rs).definitions

-- wherever it stands, these are the first free elements of the queue, as they would be taken, as many
-- as there are and no more than so many
abbrev pub AreFirstFree : Stand → ℕ → ℕ → List Element → Type 0
AreFirstFree m queue most es = (from : Start) (rs : List Record) → IsManaged from rs m
    → AreFirst most queue (state_reached from rs).elements es

-- wherever it stands, this is the greatest unit that ever began
abbrev pub IsGreatest : Stand → ℕ → Type 0
IsGreatest m unit = (from : Start) (rs : List Record) → IsManaged from rs m → unit ≡ (state_reached from rs).greatest

-- wherever it stands, so many records are done
abbrev pub IsCount : Stand → ℕ → Type 0
IsCount m count = (from : Start) (rs : List Record) → IsManaged from rs m → count ≡ (state_reached from rs).next

-- wherever it stands, this tells whether the unit is open
abbrev pub IsOpenThere : Stand → ℕ → Bool → Type 0
IsOpenThere m unit b = (from : Start) (rs : List Record) → IsManaged from rs m
    → b ≡ is_open (state_reached from rs) unit

-- wherever it stands, so many elements of the queue are free
abbrev pub IsDepth : Stand → ℕ → ℕ → Type 0
IsDepth m queue count = (from : Start) (rs : List Record) → IsManaged from rs m
    → count ≡ length (filter (is_free_at queue) (state_reached from rs).elements)

-- wherever it stands, these are registered with the queue, in some order
abbrev pub AreRegistered : Stand → ℕ → List Registrant → Type 0
AreRegistered m queue rs = (from : Start) (done : List Record) → IsManaged from done m
    → IsPermutation (registrants_at queue (state_reached from done).registrants) rs
