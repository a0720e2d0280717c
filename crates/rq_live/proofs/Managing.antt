-- A manager that does a record, and one that settles.
use Rattle.std.proofs.Common.{◌≡◌, ℕ, Bool, true, false, List, [], ◌∷◌, ◌++◌, Option, Some, None, sym, ap, subst}
use Rattle.std.proofs.Common.{take}
use Rattle.std.proofs.Common.{◌∙◌, ◌+◌, ◌-◌, ◌*◌, ◌<◌, ◌≤◌, length, inl, inr, arith}
use Rattle.std.specs.List.{AllByRecursion}
use Rattle.std.proofs.lemmas.Bool.{and_parts, eqb-true, false≢true, lt-ltb}
use Rattle.std.specs.Prelude.{Result, Ok, Err, OnOk, IfErr, ◌==◌}
use Rattle.std.specs.Global.{Vec}
use Rattle.std.specs.Io.KnownBytes.{append_known}
use Rattle.std.proofs.Math.Seq.{take-nil}
use Rattle.std.proofs.lemmas.List.{append-nil, take-take, take_at}
use Rattle.rq_model.specs.Records.{Record, Begin, Commit, Abort, Version}
use Rattle.rq_model.specs.Spelling.{body_of}
use Rattle.rq_model.specs.Frames.{log_limit, log_of, header}
use Rattle.rq_model.specs.States.{State, Element, is_free}
use Rattle.rq_model.specs.WellFormed.{IsWellFormed, IsElement, IsIn}
use Rattle.rq_model.specs.Laws.{EmptyIsWellFormed, RunsAreWellFormed}
use Rattle.rq_model.specs.Queues.{elements_at}
use Rattle.rq_model.specs.Reports.{IsListing}
use Rattle.rq_model.specs.Machine.{aborts, is_free_at}
use Rattle.rq_model.specs.Fronts.{IsFront}
use Rattle.rq_model.specs.LogLaws.{FrontStops, FrameIsRight}
use Rattle.rq_model.specs.Checkpoints.{TrueAt}
use Rattle.rq_model.specs.Appending.{AppendedIsFront, CheckpointIsTrue, FitsCheckpoint, with_checkpoint}
use Rattle.rq_model.specs.StateSpelling.{carried_next}
use Rattle.rq_model.specs.Carrying.{LaterSaysTheSame}
use Rattle.rq_record.specs.declared.record.ElemId.{ElemId}
use Rattle.rq_queue.specs.Firsts.{AreFirst}
use Rattle.rq_live.proofs.PartListings.{lists_all}
use Rattle.rq_device.specs.Devices.{AreStored, CrashLeaves, IsAllSynced, cut_known}
use Rattle.rq_live.specs.declared.kernel.Kernel.{Kernel}
use Rattle.rq_live.specs.declared.kernel.NotDone.{NotDone}
use Rattle.rq_live.specs.declared.kernel.NotDone.TheVariants.{Unlawful, Full, Large, Ended, Spent}
use Rattle.rq_live.specs.Kernels.{KernelTakes, KernelStays, KernelRefuses, KernelMarks, IsWhyNotTaken, HasRoomForEnds}
use Rattle.rq_live.specs.Kernels.{HasNoRoom, KernelAborts}
use Rattle.rq_live.specs.Kernels.{IsKernelBehind, length_with_ends}
use Rattle.rq_live.specs.Starts.{Start, Plain, Carried, file_of, state_reached, checkpoint_in}
use Rattle.rq_live.specs.Managers.{Stand, IsManaged, Does, DoesTaking, ManagerStops, StopsEnd, StopsBegin}
use Rattle.rq_live.specs.Managers.{Serves, Settles, AllIsSafe}
use Rattle.rq_live.specs.Managers.{AreFirstFree, AbortsAll, Secures, Resumes, StopsResume, Commits}
use Rattle.rq_live.specs.Managers.{MarksState}
use Rattle.rq_live.specs.Managers.{MarksSafely, IsTrueIn}
use Rattle.rq_live.proofs.Taking.{long_with_ends, some_open, commit_long, abort_long}
use Rattle.rq_live.proofs.Begun.{well_behind}
use Rattle.rq_live.proofs.CarriedFiles.{says_the_same}
use Rattle.rq_left.proofs.Leaving.{bare}

-- the same manager over another kernel, which stands behind these records
over_kernel : (a : Stand) (k : Kernel) (from : Start) (rs xs : List Record) (m : IsManaged from rs a)
    → IsKernelBehind from xs m.bytes k → HasRoomForEnds from xs → IsManaged from xs (record a { kernel = k })
over_kernel a k from rs xs m at room = record {
  unspent = m.unspent;
  serves = m.serves;
  bytes = m.bytes;
  known = m.known;
  at = at;
  room = room;
}

pub managed_on : (a : Stand) (k : Kernel) (r : Record) (id : Option ElemId) → KernelTakes a.kernel k r id
    → DoesTaking a (record a { kernel = k }) r id
managed_on a k r id t from rs m =
    let x = t from rs m.bytes m.at in
    (over_kernel a k from rs (rs ++ r ∷ []) m x.0 x.1.room, x.1.lawful, x.1.element)

pub managed_stops : (a : Stand) (k : Kernel) (r : Record) (why : NotDone) → KernelStays a.kernel k
    → KernelRefuses a.kernel r why
    → (from : Start) (rs : List Record) → IsManaged from rs a
    → IsManaged from rs (record a { kernel = k }) × IsWhyNotTaken from rs r why
managed_stops a k r why stays refuses from rs m =
    (over_kernel a k from rs rs m (stays from rs m.bytes m.at) m.room, refuses from rs m.bytes m.at)

pub managed_marks : (a : Stand) (k : Kernel) (offset : ℕ) → KernelMarks a.kernel k → offset ≡ a.kernel.len
    → ((from : Start) (rs : List Record) → IsManaged from rs a
    → a.kernel.len ≡ length (file_of from rs))
    → MarksState a (record a { kernel = k }) offset
managed_marks a k offset marks is long from rs m =
    let x = marks from rs m.bytes m.at in (
      over_kernel a k from rs (rs ++ checkpoint_in (state_reached from rs) ∷ []) m x.0 x.2,
      x.1,
      is ∙ long from rs m,
      x.3,
    )

-- why there is no checkpoint of the state there
pub stops_there : (a : Stand) (k : Kernel) (why : NotDone) → KernelStays a.kernel k
    → KernelRefuses a.kernel (checkpoint_in a.kernel.machine) why → (from : Start) (rs : List Record)
    → IsManaged from rs a → IsManaged from rs (record a { kernel = k })
    × IsWhyNotTaken from rs (checkpoint_in (state_reached from rs)) why
stops_there a k why stays refuses from rs m =
    let x = managed_stops a k (checkpoint_in a.kernel.machine) why stays refuses from rs m in
    (x.0, subst (λ (s : State). IsWhyNotTaken from rs (checkpoint_in s) why) m.at.state x.1)

known_more : (k : Option (List ℕ)) (w bs : List ℕ) → AreStored k w → AreStored (append_known k bs) (w ++ bs)
known_more None w bs h = tt
known_more (Some x) w bs h = ap (λ (y : List ℕ). y ++ bs) h

-- all pending bytes are written and synced
pub settles : (a : Stand) (written : Option (List ℕ)) (synced : ℕ) (doubted failed : Bool) (pending : Vec ℕ)
    → failed ≡ false
    → doubted ≡ a.doubted → written ≡ append_known a.written a.kernel.pending.items → IsAllSynced written synced
    → pending.items ≡ [] → Settles a (record {
      written = written;
      synced = synced;
      doubted = doubted;
      failed = failed;
      spent = a.spent;
      kernel = record (a.kernel) { pending = pending };
    })
settles a written synced doubted failed pending works sure more all none from rs m =
    let front = a.kernel.pending.items in
    let known = subst (λ (k : Option (List ℕ)). AreStored k (m.bytes ++ front)) (sym more)
    (known_more a.written m.bytes front m.known) in (
      record {
        unspent = m.unspent;
        serves = (works, sure ∙ m.serves.1, all);
        bytes = m.bytes ++ front;
        known = known;
        at = record {
          may = m.at.may;
          short = m.at.short;
          rules = m.at.rules;
          state = m.at.state;
          begun = m.at.begun;
          last = m.at.last;
          len = m.at.len;
          bytes = m.at.bytes ∙ sym (append-nil (m.bytes ++ front))
              ∙ ap (λ (x : List ℕ). (m.bytes ++ front) ++ x) (sym none);
        };
        room = m.room;
      },
      record { written = subst (AreStored written) (sym m.at.bytes) known; synced = all },
    )

-- a manager of which nothing is pending, unless it is spent
pub all_safe : (m : Stand) → (m.spent ≡ false → m.kernel.pending.items ≡ []) → AllIsSafe m
all_safe m none from rs h =
    let whole = h.at.bytes ∙ ap (λ (p : List ℕ). h.bytes ++ p) (none h.unspent) ∙ append-nil h.bytes in
    record { written = subst (AreStored m.written) (sym whole) h.known; synced = h.serves.2 }

-- a record that is done, and then settled
pub done_so : (a m b : Stand) (r : Record) (id : Option ElemId) → DoesTaking a m r id → Settles m b
    → DoesTaking a b r id
done_so a m b r id d s from rs h =
    let done = d from rs h in
    ((s from (rs ++ r ∷ []) done.0).0, done.1, done.2)

-- a commit that is done, and then settled
pub commits_so : (a m b : Stand) (unit : ℕ) (result : Result (Unit {0}) NotDone) → Does a m (Commit unit)
    → OnOk result (Settles m b) → OnOk result (Commits a b unit)
commits_so a m b unit (Ok x) d s = λ from rs h.
    let done = d from rs h in
    let safe = s from (rs ++ Commit unit ∷ []) done.0 in
    (safe.0, safe.1, done.1)
commits_so a m b unit (Err why) d s = tt

pub spent_stops : (a b : Stand) (r : Record) (result : Result (Unit {0}) NotDone)
    → IfErr result (λ (why : NotDone). (why ≡ Spent) × (b.spent ≡ true)) → IfErr result (StopsEnd a b r)
spent_stops a b r (Ok x) h = tt
spent_stops a b r (Err why) h = subst (StopsEnd a b r) (sym h.0) h.1

-- there is room for the end of an open unit
ends_fit : (from : Start) (rs : List Record) (r : Record) → HasRoomForEnds from rs → length (body_of r) ≡ 9
    → 1 ≤ length (state_reached from rs).units
    → log_limit < length_with_ends from (rs ++ r ∷ []) (length (state_reached from rs).units - 1) → ⊥
ends_fit from rs r room long some full =
    omega (arith, room, long, some, full, long_with_ends from rs r (length (state_reached from rs).units - 1))

pub commit_stops : (a b : Stand) (unit : ℕ) (why : NotDone) → ManagerStops a b (Commit unit) why
    → StopsEnd a b (Commit unit) why
commit_stops a b unit (Unlawful rule) s = s
commit_stops a b unit Full s = λ from rs m.
    let x = (s from rs m).1 in
    ends_fit from rs (Commit unit) m.room (commit_long unit)
    (some_open unit (state_reached from rs).units x.lawful) x.long
commit_stops a b unit Large s = s
commit_stops a b unit Ended s = s
commit_stops a b unit Spent s = s

pub abort_stops : (a b : Stand) (unit : ℕ) (why : NotDone) → ManagerStops a b (Abort unit) why
    → StopsEnd a b (Abort unit) why
abort_stops a b unit (Unlawful rule) s = s
abort_stops a b unit Full s = λ from rs m.
    let x = (s from rs m).1 in
    ends_fit from rs (Abort unit) m.room (abort_long unit)
    (some_open unit (state_reached from rs).units x.lawful) x.long
abort_stops a b unit Large s = s
abort_stops a b unit Ended s = s
abort_stops a b unit Spent s = s

-- the BEGIN of the next unit is lawful, so it stops for room alone
pub begin_stops : (a b : Stand) (n : ℕ) (why : NotDone)
    → ((from : Start) (rs : List Record) → IsManaged from rs a → n ≡ (state_reached from rs).greatest)
    → ManagerStops a b (Begin (n + 1)) why → StopsBegin a b why
begin_stops a b n (Unlawful rule) g s = λ from rs m.
    let lawful = lt-ltb (state_reached from rs).greatest (n + 1) (omega (arith, g from rs m)) in
    false≢true (sym (s from rs m).1.unlawful ∙ lawful)
begin_stops a b n Full g s = λ from rs m.
    let x = s from rs m in
    (x.0, subst (λ (k : ℕ). HasNoRoom from rs (Begin (k + 1))) (g from rs m) x.1)
begin_stops a b n Large g s = s
begin_stops a b n Ended g s = absurd s
begin_stops a b n Spent g s = s

-- a plain log of these records is a front
front_there : FrontStops → AppendedIsFront → (version : Version) (rs : List Record) (w : List ℕ) (k : Kernel)
    → IsKernelBehind (Plain version) rs w k → IsFront (log_of version rs) version rs []
front_there stops appended version rs w k at =
    appended (header version ++ []) version [] [] rs (bare version stops) at.may at.short

-- a checkpoint of the state there is true
true_there : FrontStops → FrameIsRight → AppendedIsFront → CheckpointIsTrue → LaterSaysTheSame → (from : Start)
    (rs : List Record) (v w : List ℕ) (a b : Kernel) (offset : ℕ) → IsKernelBehind from rs v a
    → IsKernelBehind from (rs ++ checkpoint_in (state_reached from rs) ∷ []) w b
    → FitsCheckpoint (state_reached from rs) → (state_reached from rs).next ≤ carried_next
    → offset ≡ length (file_of from rs) → IsTrueIn from rs offset
true_there stops right appended is_true later (Plain version) rs v w a b offset h k fits few is =
    subst (TrueAt (with_checkpoint version rs)) (sym is)
    (is_true (log_of version rs) version rs [] (front_there stops appended version rs v a h) fits k.short)
true_there stops right appended is_true later (Carried version link s) rs v w a b offset h k fits few is =
    says_the_same stops right later version link s rs offset h.begun k.may k.short few is

-- a checkpoint that was taken, and then settled, is true
pub marks_so : FrontStops → FrameIsRight → AppendedIsFront → CheckpointIsTrue → LaterSaysTheSame → (a m b : Stand)
    (offset : ℕ) → MarksState a m offset → Settles m b → MarksSafely a b offset
marks_so stops right appended is_true later a m b offset marks s from rs h =
    let x = marks from rs h in
    let safe = s from (rs ++ checkpoint_in (state_reached from rs) ∷ []) x.0 in (
      safe.0,
      safe.1,
      x.2,
      true_there stops right appended is_true later from rs h.bytes safe.0.bytes a.kernel b.kernel offset h.at
          safe.0.at x.1 x.3 x.2,
    )

-- the first bytes of those that are stored
front_stored : (known : Option (List ℕ)) (log rest : List ℕ) (len : ℕ) → len ≡ length log
    → AreStored known (log ++ rest)
    → AreStored (cut_known len known) log
front_stored None log rest len long stored = tt
front_stored (Some w) log rest len long stored = ap (take len) stored ∙ take_at log rest len (sym long)

-- a kernel that stands behind these records over a device that keeps the front before them
front_managed : (m : Stand) (known : Option (List ℕ)) (used : ℕ) (from : Start) (rs xs : List Record) (rest : List ℕ)
    → m.spent ≡ false → Serves m → m.written ≡ cut_known used known → used ≡ length (file_of from rs)
    → AreStored known (file_of from rs ++ rest) → IsKernelBehind from xs (file_of from rs) m.kernel
    → HasRoomForEnds from xs → IsManaged from xs m
front_managed m known used from rs xs rest unspent serves cut long stored at room = record {
  unspent = unspent;
  serves = serves;
  bytes = file_of from rs;
  known = subst (λ (k : Option (List ℕ)). AreStored k (file_of from rs)) (sym cut)
      (front_stored known (file_of from rs) rest used long stored);
  at = at;
  room = room;
}

-- there is room for the ends of all units
room_for_ends : (k : Kernel) → k.len + 45 * length k.machine.units ≤ log_limit → (from : Start)
    (rs : List Record) (w : List ℕ) → IsKernelBehind from rs w k → HasRoomForEnds from rs
room_for_ends k room from rs w h = omega (
  arith,
  room,
  h.len,
  ap (λ (s : State). length s.units) h.state,
)

-- a front that was made sure
pub secures_so : (a b : Stand) (result : Result (Unit {0}) NotDone) (used : ℕ) → used ≡ a.kernel.len
    → a.kernel.len + 45 * length a.kernel.machine.units ≤ log_limit → b.kernel ≡ a.kernel
    → OnOk result (b.spent ≡ false) → OnOk result (Serves b) → OnOk result (b.written ≡ cut_known used a.written)
    → OnOk result (Secures a b)
secures_so a b (Ok x) used is room same unspent serves cut = λ from rs rest h stored.
    front_managed b a.written used from rs rs rest unspent serves cut
    (is ∙ h.len) stored
    (subst (IsKernelBehind from rs (file_of from rs)) (sym same) h)
    (room_for_ends a.kernel room from rs (file_of from rs) h)
secures_so a b (Err why) used is room same unspent serves cut = tt

-- all units that were open were aborted
pub aborts_so : (a : Stand) (k : Kernel) → KernelAborts a.kernel k → AbortsAll a (record a { kernel = k })
aborts_so a k ended from rs m =
    let x = ended from rs m.bytes m.at m.room in
    over_kernel a k from rs (rs ++ aborts (state_reached from rs)) m x.0 x.1

-- and then all was settled
pub aborts_settled : (a m b : Stand) (result : Result (Unit {0}) NotDone) → AbortsAll a m
    → OnOk result (Settles m b) → OnOk result (AbortsAll a b)
aborts_settled a m b (Ok x) ended settled = λ from rs h.
    (settled from (rs ++ aborts (state_reached from rs)) (ended from rs h)).0
aborts_settled a m b (Err why) ended settled = tt

-- a front that was made sure under a kernel that had aborted all open units, which was settled
pub resumes_so : (a m b : Stand) (k : Kernel) (result : Result (Unit {0}) NotDone) (used : ℕ)
    → used ≡ a.kernel.len → a.kernel.len + 45 * length a.kernel.machine.units ≤ log_limit
    → KernelAborts a.kernel k → m.kernel ≡ k → m.spent ≡ false → Serves m → m.written ≡ cut_known used a.written
    → OnOk result (Settles m b) → OnOk result (Resumes a b)
resumes_so a m b k (Ok x) used is room ended same unspent serves cut settled = λ from rs rest h stored.
    let all = rs ++ aborts (state_reached from rs) in
    let there = ended from rs (file_of from rs) h (room_for_ends a.kernel room from rs (file_of from rs) h) in
    settled from all (front_managed m a.written used from rs all rest unspent serves cut
    (is ∙ h.len) stored
    (subst (IsKernelBehind from all (file_of from rs)) (sym same) there.0) there.1)
resumes_so a m b k (Err why) used is room ended same unspent serves cut settled = tt

pub spent_resume : (a b : Stand) (result : Result (Unit {0}) NotDone)
    → IfErr result (λ (why : NotDone). (why ≡ Spent) × (b.spent ≡ true)) → IfErr result (StopsResume a b)
spent_resume a b (Ok x) h = tt
spent_resume a b (Err why) h = subst (StopsResume a b) (sym h.0) h.1

-- what begins with so many of the bytes begins with fewer
pub leaves_fewer : (known : Option (List ℕ)) (n m : ℕ) → n ≤ m → (c : List ℕ) → CrashLeaves known m c
    → CrashLeaves known n c
leaves_fewer None n m few c left = tt
leaves_fewer (Some w) n m few c left = sym (take-take n m c few) ∙ ap (take n) left ∙ take-take n m w few

-- there is no room for the ends of all units
pub no_room_for_ends : (k : Kernel) → log_limit < k.len + 45 * length k.machine.units → (from : Start)
    (rs : List Record) (w : List ℕ) → IsKernelBehind from rs w k → HasRoomForEnds from rs → ⊥
no_room_for_ends k long from rs w h room = omega (
  arith,
  long,
  room,
  h.len,
  ap (λ (s : State). length s.units) h.state,
)

-- what holds of all elements holds of one that is there
element_there : (s : State) (e : Element) (es : List Element) → AllByRecursion (IsElement s) es → IsIn e es
    → IsElement s e
element_there s e [] all here = absurd here
element_there s e (f ∷ fs) all (inl is) = subst (IsElement s) (sym is) all.0
element_there s e (f ∷ fs) all (inr later) = element_there s e fs all.1 later

-- a queue that is not there has no element
pub no_listing : (s : State) (queue : ℕ) → IsWellFormed s → length s.definitions ≤ queue → IsListing queue s.elements []
no_listing s queue well beyond = record {
  in_order = tt;
  members = λ e. (absurd, λ there. apart e there);
}
  where
    apart : (e : Element) → IsIn e s.elements × (is_free_at queue e ≡ true) → ⊥
    apart e there =
        let home = (element_there s e s.elements well.elements there.0).home in
        let same = eqb-true e.home queue (and_parts (is_free e.mark) (e.home == queue) there.1).1 in
        omega (arith, home, same, beyond)

-- the first ones that the part of the queue lists
pub first_free : (m : Stand) (queue most : ℕ) (es : List Element)
    → AreFirst most queue (elements_at queue m.kernel.machine.elements) es → AreFirstFree m queue most es
first_free m queue most es first from rs managed = (
  first.0,
  subst (λ (s : State). IsListing queue s.elements first.0) managed.at.state
      (lists_all queue m.kernel.machine.elements first.0 first.1),
  first.2,
)

-- no element is free in a queue that is not there
pub none_free : EmptyIsWellFormed → RunsAreWellFormed → (m : Stand) (queue most : ℕ)
    → length m.kernel.machine.definitions ≤ queue → AreFirstFree m queue most []
none_free start runs m queue most beyond from rs managed = (
  [],
  no_listing (state_reached from rs) queue (well_behind start runs from rs managed.at.begun managed.at.may)
      (subst (λ (s : State). length s.definitions ≤ queue) managed.at.state beyond),
  sym (take-nil most),
)
