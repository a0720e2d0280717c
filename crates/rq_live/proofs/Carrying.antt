-- A manager that goes on in another file.
use Rattle.std.proofs.Common.{◌≡◌, ℕ, ◌+◌, ◌*◌, ◌≤◌, List, [], ◌∷◌, ◌++◌, length, refl, sym, ap, subst}
use Rattle.std.proofs.Common.{◌∙◌, append_assoc, arith}
use Rattle.std.specs.Prelude.{Result, Ok, Err, IfOk, IfErr}
use Rattle.std.specs.List.{flat_map}
use Rattle.std.specs.Int.{w32, w64, to_be_bytes}
use Rattle.std.proofs.lemmas.List.{append-nil, length-append}
use Rattle.rq_model.specs.Records.{Record, Version}
use Rattle.rq_model.specs.Spelling.{body_of}
use Rattle.rq_model.specs.Frames.{digest, frame, last_of, magic}
use Rattle.rq_model.specs.States.{State}
use Rattle.rq_model.specs.Machine.{step}
use Rattle.rq_model.specs.Laws.{EmptyIsWellFormed}
use Rattle.rq_model.specs.StateSpelling.{state_bytes, counted, definition_bytes, registrant_bytes, element_bytes}
use Rattle.rq_model.specs.StateSpelling.{carried_next, note_bytes}
use Rattle.rq_model.specs.Appending.{FitsCheckpoint}
use Rattle.rq_model.specs.Carrying.{carried_file, carried_header}
use Rattle.rq_model.proofs.Runs.{length-sha256, frame_long}
use Rattle.rq_model.proofs.Restarts.{run_join}
use Rattle.rq_record.specs.Views.{version_of}
use Rattle.rq_live.specs.declared.kernel.Kernel.{Kernel}
use Rattle.rq_live.specs.declared.carries.NotCarried.{NotCarried}
use Rattle.rq_live.specs.declared.carries.NotCarried.TheVariants.{Large, Ended, Unmade, Resources, Spent}
use Rattle.rq_live.specs.Starts.{Start, Plain, Carried, rules_of, base_of, link_of, file_of, state_reached, last_behind}
use Rattle.rq_live.specs.Starts.{checkpoint_in, begun_behind, AreBegun}
use Rattle.rq_live.specs.Kernels.{IsKernelBehind, HasRoomForEnds}
use Rattle.rq_live.specs.Managers.{Stand, Settles}
use Rattle.rq_live.specs.Carries.{BeginsBehind, KernelGoesOver, GoesOnAsOne, StandsOver, GoesOver}
use Rattle.rq_live.specs.Carries.{StaysSafe, StopsCarry}
use Rattle.rq_live.proofs.Begun.{spelt_behind}
use Rattle.rq_live.proofs.CarriedFiles.{file_long}

-- the last bytes are 32
last_long : (p : List ℕ) (rs : List Record) → length p ≡ 32 → length (last_of p rs) ≡ 32
last_long p [] long = long
last_long p (r ∷ rs) long =
    last_long (digest p (body_of r)) rs
    (length-sha256 (p ++ (to_be_bytes w32 (length (body_of r)) ++ body_of r)))

link_long : (from : Start) (rs : List Record) → AreBegun from rs → length (link_of from) ≡ 32
link_long (Plain version) rs h = length-sha256 (magic version)
link_long (Carried version link s) rs h = h.0

numbers_long : (units : List ℕ) → length (flat_map (to_be_bytes w64) units) ≡ 8 * length units
numbers_long [] = refl
numbers_long (u ∷ us) =
    omega (arith, numbers_long us, length-append (to_be_bytes w64 u) (flat_map (to_be_bytes w64) us))

-- what stands among bytes is no longer than all of them
within_more : (n : ℕ) (a b : List ℕ) → n ≤ length b → n ≤ length (a ++ b)
within_more n a b few = omega (arith, few, length-append a b)

within_front : (n : ℕ) (a b : List ℕ) → n ≤ length a → n ≤ length (a ++ b)
within_front n a b few = omega (arith, few, length-append a b)

-- each open unit has eight bytes in the spelling of the state
units_few : (s : State) → 8 * length s.units ≤ length (state_bytes s)
units_few s =
    let n = 8 * length s.units in
    let behind : List ℕ = counted registrant_bytes s.registrants
    ++ (counted element_bytes s.elements ++ counted note_bytes s.notes) in
    let units : List ℕ = counted (to_be_bytes w64) s.units ++ behind in
    let lists : List ℕ = counted definition_bytes s.definitions ++ units in
    let aborted : List ℕ = to_be_bytes w64 s.aborted ++ lists in
    let committed : List ℕ = to_be_bytes w64 s.committed ++ aborted in
    let greatest : List ℕ = to_be_bytes w64 s.greatest ++ committed in
    within_more n (to_be_bytes w64 s.next) greatest
    (within_more n (to_be_bytes w64 s.greatest) committed
    (within_more n (to_be_bytes w64 s.committed) aborted
    (within_more n (to_be_bytes w64 s.aborted) lists
    (within_more n (counted definition_bytes s.definitions) units
    (within_front n (counted (to_be_bytes w64) s.units) behind
    (within_more n (to_be_bytes w32 (length s.units)) (flat_map (to_be_bytes w64) s.units)
    (omega (arith, numbers_long s.units))))))))

-- the file that begins with a checkpoint
file_begun : (version : Version) (link : List ℕ) (s : State)
    → file_of (Carried version link s) (checkpoint_in s ∷ [])
    ≡ carried_file version link (frame link (body_of (checkpoint_in s)))
file_begun version link s =
    let f = frame link (body_of (checkpoint_in s)) in
    append_assoc (carried_header version) link (f ++ [])
    ∙ ap (λ (b : List ℕ). carried_header version ++ (link ++ b)) (append-nil f)

begun_long : (version : Version) (link : List ℕ) (s : State) → length link ≡ 32
    → length (file_of (Carried version link s) (checkpoint_in s ∷ [])) ≡ 109 + length (state_bytes s)
begun_long version link s long =
    let f = frame link (body_of (checkpoint_in s)) in
    omega (
      arith,
      file_long version link s (checkpoint_in s ∷ []) long,
      length-append f [],
      frame_long link (body_of (checkpoint_in s)),
    )

-- a kernel that stands behind the first bytes of the other file
begins_there : (version : Version) (link first end : List ℕ) (s : State) (b : Kernel) → length link ≡ 32
    → FitsCheckpoint s
    → first ≡ carried_file version link (frame link (body_of (checkpoint_in s)))
    → end ≡ digest link (body_of (checkpoint_in s)) → AreBegun (Carried version link s) (checkpoint_in s ∷ [])
    → version_of b.version ≡ version → b.machine ≡ step s (checkpoint_in s) → b.last ≡ end → b.len ≡ length first
    → b.pending.items ≡ []
    → IsKernelBehind (Carried version link s) (checkpoint_in s ∷ []) first b
    × HasRoomForEnds (Carried version link s) (checkpoint_in s ∷ [])
begins_there version link first end s b long fits is ends begun rules moved last len none =
    let whole = file_begun version link s in
    let size = begun_long version link s long in (
      record {
        rules = rules;
        begun = begun;
        may = record { records = (fits, tt); lawful = refl };
        short = omega (arith, size, fits);
        state = moved;
        last = last ∙ ends;
        len = len ∙ ap length (is ∙ sym whole);
        bytes = whole ∙ sym is ∙ sym (append-nil first) ∙ ap (λ (x : List ℕ). first ++ x) (sym none);
      },
      omega (arith, size, fits, units_few s),
    )

-- so it does, wherever it stood
pub goes_over : EmptyIsWellFormed → (a b : Kernel) (first end : List ℕ) → BeginsBehind a first end
    → b.version ≡ a.version → b.machine ≡ step a.machine (checkpoint_in a.machine) → b.last ≡ end
    → b.len ≡ length first → b.pending.items ≡ [] → KernelGoesOver a b first
goes_over start a b first end begins rules moved last len none from rs w h =
    let version = rules_of from in
    let link = last_behind from rs in
    let s = state_reached from rs in
    let long = last_long (link_of from) rs (link_long from rs h.begun) in
    let few = subst (λ (t : State). t.next ≤ carried_next) h.state begins.few in
    let is : first ≡ carried_file version link (frame link (body_of (checkpoint_in s))) =
    begins.bytes ∙ (λ i. carried_file (h.rules i) (h.last i)
    (frame (h.last i) (body_of (checkpoint_in (h.state i))))) in
    let ends : end ≡ digest link (body_of (checkpoint_in s)) =
    begins.last ∙ (λ i. digest (h.last i) (body_of (checkpoint_in (h.state i)))) in
    let fits = subst FitsCheckpoint h.state begins.fits in
    begins_there version link first end s b long fits is ends
    (long, spelt_behind start from rs h.begun h.may few fits, [], refl) (ap version_of rules ∙ h.rules)
    (moved ∙ ap (λ (t : State). step t (checkpoint_in t)) h.state) last len none

-- what follows leads to the state to which it would have led
goes_as_one : (from : Start) (rs : List Record) → GoesOnAsOne from rs
goes_as_one from rs xs = sym (run_join (base_of from) rs (begun_behind from rs ++ xs))

pub carries_over : (a b : Stand) (count : ℕ) → StandsOver a b → count ≡ a.kernel.machine.next → GoesOver a b count
carries_over a b count over is from rs m =
    let x = over from rs m in
    (x.0, x.1, goes_as_one from rs, is ∙ ap (λ (s : State). s.next) m.at.state)

-- after all was settled
pub carries_so : (a m b : Stand) (result : Result ℕ NotCarried) → Settles a m → IfOk result (GoesOver m b)
    → IfOk result (GoesOver a b)
carries_so a m b (Ok count) settled carried = λ from rs h. carried from rs (settled from rs h).0
carries_so a m b (Err why) settled carried = tt

pub stops_so : (a m b : Stand) (result : Result ℕ NotCarried) → Settles a m → IfErr result (StaysSafe m b)
    → IfErr result (StopsCarry a b)
stops_so a m b (Ok count) settled there = tt
stops_so a m b (Err Large) settled there = λ from rs h. let x = settled from rs h in there from rs x.0 x.1
stops_so a m b (Err Ended) settled there = λ from rs h. let x = settled from rs h in there from rs x.0 x.1
stops_so a m b (Err Unmade) settled there = λ from rs h. let x = settled from rs h in there from rs x.0 x.1
stops_so a m b (Err Resources) settled there = λ from rs h. let x = settled from rs h in there from rs x.0 x.1
stops_so a m b (Err Spent) settled there = there
