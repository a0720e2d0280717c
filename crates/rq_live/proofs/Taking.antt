-- A record that is taken, and one that is not.
use Rattle.std.proofs.Common.{◌≡◌, ℕ, ◌+◌, ◌-◌, ◌*◌, ◌<◌, ◌≤◌, ◌==◌, Bool, true, false, not, cond, List, [], ◌∷◌, ◌++◌}
use Rattle.std.proofs.Common.{length, map, drop}
use Rattle.std.proofs.Common.{◌∙◌, ◌||◌, refl, sym, ap, subst, append_assoc, arith}
use Rattle.std.specs.List.{list_any}
use Rattle.std.proofs.lemmas.Bool.{and_from, false≢true}
use Rattle.std.proofs.lemmas.List.{append-nil, length-append, drop_at}
use Rattle.rq_model.specs.Records.{Record, Define, Register, Deregister, Begin, Enqueue, Dequeue, Commit, Abort}
use Rattle.rq_model.specs.Records.{Checkpoint, Kill, Version, One, Two}
use Rattle.rq_model.specs.Spelling.{body_of, IsRecord, Spells}
use Rattle.rq_model.specs.Frames.{log_limit, IsBodyLength, digest, frame, header, magic, start}
use Rattle.rq_model.specs.LogLaws.{RecordHasOneBody}
use Rattle.rq_model.specs.States.{State, empty}
use Rattle.rq_model.specs.StateSpelling.{carried_next}
use Rattle.rq_model.specs.Machine.{is_lawful, step, closed_units}
use Rattle.rq_model.specs.Appending.{FitsCheckpoint}
use Rattle.rq_model.proofs.Lists.{each_append, by_cases}
use Rattle.rq_model.proofs.WellFormedRuns.{fewer}
use Rattle.rq_model.proofs.Longest.{last_of_join}
use Rattle.rq_model.proofs.Restarts.{lawful_join, header_long}
use Rattle.rq_record.specs.Writing.{HasKind}
use Rattle.rq_lawful.specs.Breaks.{Breaks}
use Rattle.rq_lawful.specs.declared.rules.Rule.{Rule}
use Rattle.rq_standing.specs.declared.taken.Taken.TheVariants.{Done}
use Rattle.rq_standing.specs.Machines.{IsDone}
use Rattle.rq_standing.specs.Stands.{taken}
use Rattle.rq_live.specs.declared.kernel.Kernel.{Kernel}
use Rattle.rq_live.specs.declared.kernel.NotDone.{NotDone}
use Rattle.rq_live.specs.declared.kernel.NotDone.TheVariants.{Unlawful, Full, Large, Ended, Spent}
use Rattle.std.specs.Prelude.{Option, Result, Ok, Err, OnOk}
use Rattle.rq_record.specs.Views.{version_of}
use Rattle.rq_record.specs.declared.record.ElemId.{ElemId}
use Rattle.rq_live.specs.Kernels.{HasDone, BreaksThere, IsKernelBehind, IsTaken, HasRoomForEnds, HasNoRoom, open_behind}
use Rattle.rq_live.specs.Kernels.{length_with_ends}
use Rattle.rq_live.specs.Kernels.{KernelTakes, KernelStays, KernelStops, KernelRefuses, KernelMarks, KernelStopsMark}
use Rattle.rq_live.specs.Kernels.{KernelAborts, KernelTakesEach, FramesBody}
use Rattle.rq_live.specs.Starts.{Start, Plain, rules_of, base_of, link_of, file_of, state_reached, last_behind}
use Rattle.rq_live.specs.Starts.{checkpoint_in}
use Rattle.rq_live.proofs.Begun.{file_joins, one_longer, state_joins, begun_more}

-- a body fits into a frame
pub body_fits : (r : Record) → RecordHasOneBody
    → ((version : Version) → HasKind version r → Spells version r (body_of r)) → IsBodyLength (length (body_of r))
body_fits r one spelled = (one Two r (body_of r) (body_of r) (spelled Two tt) (spelled Two tt)).1

-- a lawful record has a kind of its version
has_kind : (version : Version) (s : State) (r : Record) → is_lawful version s r ≡ true → HasKind version r
has_kind One s (Define limit error name) h = tt
has_kind One s (Register queue name) h = tt
has_kind One s (Deregister queue name) h = tt
has_kind One s (Begin unit) h = tt
has_kind One s (Enqueue unit queue priority by payload) h = tt
has_kind One s (Dequeue unit queue by) h = tt
has_kind One s (Commit unit) h = tt
has_kind One s (Abort unit) h = tt
has_kind One s (Checkpoint bytes) h = tt
has_kind One s (Kill queue element) h = absurd cc
has_kind Two s _ h = tt

-- so many bytes of a file and the ends of so many units
pub long_with_ends : (from : Start) (rs : List Record) (r : Record) (count : ℕ)
    → length_with_ends from (rs ++ r ∷ []) count
    ≡ length (file_of from rs) + (36 + length (body_of r)) + 45 * count
long_with_ends from rs r count = omega (arith, one_longer from rs r)

-- a unit that ends was one of those that are open
one_fewer : (unit : ℕ) (units : List ℕ) → list_any (λ v. v == unit) units ≡ true
    → length (closed_units unit units) ≤ length units - 1
one_fewer unit [] h = absurd (false≢true h)
one_fewer unit (v ∷ vs) h =
    by_cases (v == unit) (λ (b : Bool). b || list_any (λ w. w == unit) vs ≡ true
    → length (cond (not b) (v ∷ closed_units unit vs) (closed_units unit vs)) ≤ length (v ∷ vs) - 1)
    (λ _ _. omega (arith, fewer (λ w. not (w == unit)) vs))
    (λ _ there. omega (arith, some_left vs there (one_fewer unit vs there)))
    h
  where
    some_left : (ws : List ℕ) → list_any (λ w. w == unit) ws ≡ true → length (closed_units unit ws) ≤ length ws - 1
        → length (closed_units unit ws) + 1 ≤ length ws
    some_left [] there few = absurd (false≢true there)
    some_left (w ∷ ws) there few = omega (arith, few)

-- how many units are open behind a lawful record
pub units_behind : (version : Version) (s : State) (r : Record) → is_lawful version s r ≡ true
    → length (step s r).units ≤ open_behind (length s.units) r
units_behind version s (Begin unit) h = omega (arith, length-append s.units (unit ∷ []))
units_behind version s (Commit unit) h = one_fewer unit s.units h
units_behind version s (Abort unit) h = one_fewer unit s.units h
units_behind version s (Define limit error name) h = omega arith
units_behind version s (Register queue name) h = omega arith
units_behind version s (Deregister queue name) h = omega arith
units_behind version s (Enqueue unit queue priority by payload) h = omega arith
units_behind version s (Dequeue unit queue by) h = omega arith
units_behind version s (Checkpoint bytes) h = omega arith
units_behind version s (Kill queue element) h = omega arith

-- at most one fewer than were open
pub open_many : (count : ℕ) (r : Record) → count ≤ open_behind count r + 1
open_many count (Begin unit) = omega arith
open_many count (Commit unit) = omega arith
open_many count (Abort unit) = omega arith
open_many count (Define limit error name) = omega arith
open_many count (Register queue name) = omega arith
open_many count (Deregister queue name) = omega arith
open_many count (Enqueue unit queue priority by payload) = omega arith
open_many count (Dequeue unit queue by) = omega arith
open_many count (Checkpoint bytes) = omega arith
open_many count (Kill queue element) = omega arith

-- behind the header there is room
pub bare_room : (version : Version) → HasRoomForEnds (Plain version) []
bare_room version = omega (arith, length-append (header version) [], header_long version)

-- the last bytes of a header
header_ends : (version : Version) (b : List ℕ) → b ≡ header version → drop (length b - 32) b ≡ start version
header_ends version b is =
    ap (λ (x : List ℕ). drop (length x - 32) x) is
    ∙ drop_at (magic version) (start version) (length (header version) - 32) (omega (arith, header_long version))

-- a kernel that stands behind the header, which is pending
pub stands_new : (version : Version) (s : State) (end b : List ℕ) → b ≡ header version → s ≡ empty
    → end ≡ drop (length b - 32) b → HasDone (Plain version) [] [] version s end 40 b
stands_new version s end b is none ends =
    let whole = append-nil (header version) in
    let size = ap length whole ∙ header_long version in
    record {
      rules = refl;
      begun = tt;
      may = record { records = tt; lawful = refl };
      short = omega (arith, size);
      state = none;
      last = ends ∙ header_ends version b is;
      len = sym size;
      bytes = whole ∙ sym is;
    }

-- some unit is open, if one ends
pub some_open : (unit : ℕ) (units : List ℕ) → list_any (λ v. v == unit) units ≡ true → 1 ≤ length units
some_open unit [] h = absurd (false≢true h)
some_open unit (v ∷ vs) h = omega arith

-- the frame that ends a unit
pub commit_long : (unit : ℕ) → length (body_of (Commit unit)) ≡ 9
commit_long unit = refl

pub abort_long : (unit : ℕ) → length (body_of (Abort unit)) ≡ 9
abort_long unit = refl

-- a record that was done and framed moves it on
pub moves_on : (from : Start) (rs : List Record) (w : List ℕ) (r : Record) (a b : Kernel) (id : Option ElemId)
    → IsKernelBehind from rs w a → ((version : Version) → HasKind version r → Spells version r (body_of r))
    → IsDone (version_of a.version) a.machine r (Done id) → b.version ≡ a.version → b.machine ≡ step a.machine r
    → FramesBody a b (body_of r)
    → a.len + (36 + length (body_of r)) + 45 * open_behind (length a.machine.units) r ≤ log_limit
    → IsKernelBehind from (rs ++ r ∷ []) w b × IsTaken from rs r id
moves_on from rs w r a b id h spelled done same_rules moved framed room =
    let version = rules_of from in
    let base = base_of from in
    let p = link_of from in
    let f = frame (last_behind from rs) (body_of r) in
    let longer = one_longer from rs r in
    let same : frame a.last (body_of r) ≡ f =
    ap (λ (q : List ℕ). frame q (body_of r)) h.last in
    let lawful : is_lawful version (state_reached from rs) r ≡ true =
    sym (λ i. is_lawful (h.rules i) (h.state i) r) ∙ done.0 in
    let state = moved ∙ ap (λ (s : State). step s r) h.state ∙ sym (state_joins from rs (r ∷ [])) in
    let units = units_behind version (state_reached from rs) r lawful in
    let fits = subst (λ (s : State). a.len + (36 + length (body_of r)) + 45 * open_behind (length s.units) r
    ≤ log_limit)
    h.state room in (
      record {
        rules = ap version_of same_rules ∙ h.rules;
        begun = begun_more from rs (r ∷ []) h.begun;
        may = record {
          records = each_append (IsRecord version) rs (r ∷ []) h.may.records
              ((spelled version (has_kind version (state_reached from rs) r lawful)).0, tt);
          lawful = lawful_join version base rs (r ∷ []) h.may.lawful (and_from _ _ lawful refl);
        };
        short = omega (arith, longer, h.len, room);
        state = state;
        last = framed.last ∙ ap (λ (q : List ℕ). digest q (body_of r)) h.last ∙ sym (last_of_join p rs (r ∷ []));
        len = omega (arith, framed.len, h.len, longer);
        bytes = file_joins from rs (r ∷ [])
            ∙ (λ i. h.bytes i ++ append-nil f i)
            ∙ append_assoc w a.pending.items f
            ∙ ap (λ (x : List ℕ). w ++ (a.pending.items ++ x)) (sym same)
            ∙ ap (λ (x : List ℕ). w ++ x) (sym framed.bytes);
      },
      record {
        lawful = lawful;
        element = done.1 ∙ ap (λ (s : State). taken s r) h.state;
        room = has_room from rs r (length (step (state_reached from rs) r).units)
            (open_behind (length (state_reached from rs).units) r) a.len
            units (ap (λ (s : State). length s.units) (state_joins from rs (r ∷ []))) h.len fits;
      },
    )
  where
    has_room : (from : Start) (rs : List Record) (r : Record) (n count len : ℕ) → n ≤ count
        → length (state_reached from (rs ++ r ∷ [])).units ≡ n → len ≡ length (file_of from rs)
        → len + (36 + length (body_of r)) + 45 * count ≤ log_limit → HasRoomForEnds from (rs ++ r ∷ [])
    has_room from rs r n count len few is long room = omega (
      arith,
      few,
      is,
      long,
      room,
      long_with_ends from rs r (length (state_reached from (rs ++ r ∷ [])).units),
    )

-- a record that breaks a rule for the machine breaks it there
pub breaks_at : (from : Start) (rs : List Record) (w : List ℕ) (r : Record) (a : Kernel) (rule : Rule)
    → IsKernelBehind from rs w a
    → (is_lawful (version_of a.version) a.machine r ≡ false) × Breaks (version_of a.version) a.machine r rule
    → BreaksThere from rs r rule
breaks_at from rs w r a rule h broken = record {
  unlawful = sym (λ i. is_lawful (h.rules i) (h.state i) r) ∙ broken.0;
  breaks = subst (λ (v : Version). Breaks v (state_reached from rs) r rule) h.rules
      (subst (λ (s : State). Breaks (version_of a.version) s r rule) h.state broken.1);
}

-- for one that is lawful there is no room
pub no_room : (from : Start) (rs : List Record) (w : List ℕ) (r : Record) (a : Kernel) (body : List ℕ)
    → IsKernelBehind from rs w a → body ≡ body_of r → is_lawful (version_of a.version) a.machine r ≡ true
    → log_limit < a.len + (36 + length body) + 45 * open_behind (length a.machine.units) r
    → HasNoRoom from rs r
no_room from rs w r a body h is lawful long =
    let there = subst (λ (s : State). log_limit < a.len + (36 + length body)
    + 45 * open_behind (length s.units) r)
    h.state long in
    record {
      lawful = sym (λ i. is_lawful (h.rules i) (h.state i) r) ∙ lawful;
      long = omega (
        arith,
        there,
        h.len,
        ap length is,
        long_with_ends from rs r (open_behind (length (state_reached from rs).units) r),
      );
    }

-- no record is taken
pub takes_none : (a : Kernel) → KernelTakesEach a a []
takes_none a from rs w at room = (
  subst (λ (xs : List Record). IsKernelBehind from xs w a) (sym (append-nil rs)) at,
  subst (HasRoomForEnds from) (sym (append-nil rs)) room,
)

-- one record more is taken
pub takes_one_more : (a m b : Kernel) (xs : List Record) (r : Record) (id : Option ElemId) → KernelTakesEach a m xs
    → KernelTakes m b r id → KernelTakesEach a b (xs ++ r ∷ [])
takes_one_more a m b xs r id each one from rs w at room =
    let there = each from rs w at room in
    let next = one from (rs ++ xs) w there.0 in
    let joined = append_assoc rs xs (r ∷ []) in (
      subst (λ (ys : List Record). IsKernelBehind from ys w b) joined next.0,
      subst (HasRoomForEnds from) joined next.1.room,
    )

-- the ABORTs of all open units are taken
pub takes_ends : (a b : Kernel) (units : List ℕ) (result : Result (Unit {0}) NotDone) → units ≡ a.machine.units
    → OnOk result (KernelTakesEach a b (map Abort units)) → OnOk result (KernelAborts a b)
takes_ends a b units (Ok x) are each = λ from rs w at room.
    subst (λ (us : List ℕ). IsKernelBehind from (rs ++ map Abort us) w b
    × HasRoomForEnds from (rs ++ map Abort us))
    (are ∙ ap (λ (s : State). s.units) at.state) (each from rs w at room)
takes_ends a b units (Err why) are each = tt

-- a checkpoint that was taken is one of the state there
pub marks_on : (a b : Kernel) (r : Record) (id : Option ElemId) → KernelTakes a b r id → r ≡ checkpoint_in a.machine
    → FitsCheckpoint a.machine → a.machine.next ≤ carried_next → KernelMarks a b
marks_on a b r id takes is fits few from rs w h =
    let same : r ≡ checkpoint_in (state_reached from rs) = is ∙ ap checkpoint_in h.state in
    let x = subst (λ (q : Record). IsKernelBehind from (rs ++ q ∷ []) w b × IsTaken from rs q id) same
    (takes from rs w h) in (
      x.0,
      subst FitsCheckpoint h.state fits,
      x.1.room,
      subst (λ (s : State). s.next ≤ carried_next) h.state few,
    )

-- a checkpoint is lawful, so no other reason is left
pub stops_mark : (a b : Kernel) (r : Record) (why : NotDone) → KernelStops a b r why → r ≡ checkpoint_in a.machine
    → KernelStopsMark a b why
stops_mark a b r (Unlawful rule) h is = λ from rs w at.
    let there = subst (λ (q : Record). BreaksThere from rs q rule) is (h.1 from rs w at) in
    false≢true (sym there.unlawful)
stops_mark a b r Full h is = subst (λ (q : Record). KernelStays a b × KernelRefuses a q Full) is h
stops_mark a b r Large h is = absurd h
stops_mark a b r Ended h is = absurd h
stops_mark a b r Spent h is = tt
