-- What a manager shows of queues, and a DEQUEUE of a queue in which an element is free.
use Rattle.std.proofs.Common.{◌≡◌, ℕ, Bool, true, false, List, [], ◌∷◌, ◌≤◌, length, Option, Some, None, refl, sym}
use Rattle.std.proofs.Common.{subst, ap, ◌∙◌, arith, Bor}
use Rattle.std.specs.Prelude.{Result, Ok, Err, IfOk, is_some, option_copied, filter, ◌==◌}
use Rattle.std.specs.List.{AllByRecursion}
use Rattle.std.proofs.lemmas.List.Sorted.{IsPermutation-refl}
use Rattle.std.proofs.lemmas.Bool.{and_parts, eqb-true, false≢true}
use Rattle.rq_model.specs.Records.{By, Record}
use Rattle.rq_model.specs.States.{State, Element, Registrant, is_free}
use Rattle.rq_model.specs.WellFormed.{IsWellFormed, IsElement, IsRegistrant}
use Rattle.rq_model.specs.Laws.{EmptyIsWellFormed, RunsAreWellFormed}
use Rattle.rq_model.specs.Queues.{registrants_at}
use Rattle.rq_model.specs.Machine.{best, is_free_at}
use Rattle.rq_live.specs.declared.kernel.NotDone.{NotDone}
use Rattle.rq_live.specs.Starts.{Start, state_reached}
use Rattle.rq_live.proofs.Begun.{well_behind}
use Rattle.rq_live.specs.Managers.{Stand, IsManaged, IsDepth, AreRegistered, Dequeues, DequeuesIfFree}

refuted : (b : Bool) → (b ≡ true → ⊥) → b ≡ false
refuted true h = absurd (h refl)
refuted false h = refl

-- a queue that is not there has no free element
no_free : (s : State) (queue : ℕ) (es : List Element) → AllByRecursion (IsElement s) es
    → length s.definitions ≤ queue → filter (is_free_at queue) es ≡ []
no_free s queue [] all beyond = refl
no_free s queue (e ∷ es) all beyond =
    let home = all.0.home in
    let no : is_free_at queue e ≡ false = refuted (is_free_at queue e) (λ yes.
    let same = eqb-true e.home queue (and_parts (is_free e.mark) (e.home == queue) yes).1 in
    omega (arith, home, same, beyond)) in
    rw no (no_free s queue es all.1 beyond)

-- and nobody is registered with it
nobody : (s : State) (queue : ℕ) (rs : List Registrant) → AllByRecursion (IsRegistrant s) rs
    → length s.definitions ≤ queue → registrants_at queue rs ≡ []
nobody s queue [] all beyond = refl
nobody s queue (r ∷ rs) all beyond =
    let there = all.0.queue in
    let no : (r.queue == queue) ≡ false = refuted (r.queue == queue) (λ yes.
    let same = eqb-true r.queue queue yes in omega (arith, there, same, beyond)) in
    rw no (nobody s queue rs all.1 beyond)

-- the state in which a manager stands is well formed
well_there : EmptyIsWellFormed → RunsAreWellFormed → (m : Stand) (from : Start) (rs : List Record)
    → IsManaged from rs m → IsWellFormed (state_reached from rs)
well_there start runs m from rs managed = well_behind start runs from rs managed.at.begun managed.at.may

beyond_there : (m : Stand) (queue : ℕ) (from : Start) (rs : List Record) → IsManaged from rs m
    → length m.kernel.machine.definitions ≤ queue → length (state_reached from rs).definitions ≤ queue
beyond_there m queue from rs managed beyond =
    subst (λ (s : State). length s.definitions ≤ queue) managed.at.state beyond

pub no_depth : EmptyIsWellFormed → RunsAreWellFormed → (m : Stand) (queue : ℕ)
    → length m.kernel.machine.definitions ≤ queue → IsDepth m queue 0
no_depth start runs m queue beyond from rs managed =
    sym (ap length (no_free (state_reached from rs) queue (state_reached from rs).elements
    (well_there start runs m from rs managed).elements
    (beyond_there m queue from rs managed beyond)))

pub none_registered : EmptyIsWellFormed → RunsAreWellFormed → (m : Stand) (queue : ℕ) (none : List Registrant)
    → none ≡ [] → length m.kernel.machine.definitions ≤ queue
    → AreRegistered m queue none
none_registered start runs m queue none is beyond from rs managed =
    rw (
      is,
      nobody (state_reached from rs) queue (state_reached from rs).registrants
          (well_there start runs m from rs managed).registrants
          (beyond_there m queue from rs managed beyond),
    ) (IsPermutation-refl [])

pub some_copied : {X : Type 0} (o : Option (Bor X)) → is_some o ≡ true → is_some (option_copied o) ≡ true
some_copied (Some x) h = refl
some_copied None h = h

-- if an element is free, one is taken
pub takes_one : (a b : Stand) (unit queue : ℕ) (by : Option By) (first : Option Element) → is_some first ≡ true
    → ((from : Start) (rs : List Record) → IsManaged from rs a → first ≡ best queue (state_reached from rs).elements)
    → (e : Option Element) → Dequeues a b unit queue by e → DequeuesIfFree a b unit queue by e
takes_one a b unit queue by first some is (Some e) d = d
takes_one a b unit queue by first some is None d =
    let never : (from : Start) (rs : List Record) → IsManaged from rs a → ⊥ = λ from rs m.
    false≢true (ap is_some ((d from rs m).2 ∙ sym (is from rs m)) ∙ some) in
    (λ from rs m. absurd (never from rs m), λ from rs m. absurd (never from rs m))

pub takes_one_so : (a b : Stand) (unit queue : ℕ) (by : Option By) (first : Option Element) → is_some first ≡ true
    → ((from : Start) (rs : List Record) → IsManaged from rs a → first ≡ best queue (state_reached from rs).elements)
    → (result : Result (Option Element) NotDone) → IfOk result (Dequeues a b unit queue by)
    → IfOk result (DequeuesIfFree a b unit queue by)
takes_one_so a b unit queue by first some is (Ok e) d = takes_one a b unit queue by first some is e d
takes_one_so a b unit queue by first some is (Err why) d = tt
