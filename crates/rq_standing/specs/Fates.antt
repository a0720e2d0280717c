-- Where the elements are that a unit put in or took, when it has ended.
use Rattle.std.specs.Prelude.{◌≡◌, ◌≢◌, ℕ, true}
use Rattle.std.specs.List.{AllByRecursion}
use Rattle.rq_model.specs.Machine.{is_free_at, step}
use Rattle.rq_model.specs.Records.{Record}
use Rattle.rq_model.specs.States.{State, Element}
use Rattle.rq_model.specs.WellFormed.{IsIn, IsWellFormed}
use Rattle.rq_queue.specs.declared.fates.Fate.{Fate}
use Rattle.rq_queue.specs.declared.fates.Fate.TheVariants.{Freed, Gone, Undone, Back, Moved}
use Rattle.rq_standing.specs.Ends.{ends}

-- no element has the id
abbrev pub Lacks : State → ℕ → Type 0
Lacks t id = AllByRecursion (λ e. e.id ≢ id) t.elements

-- the fate is that of the element of the id, as the state has it
abbrev pub IsFateOf : State → ℕ → Fate → Type 0
IsFateOf t id Gone = Lacks t id
IsFateOf t id Undone = Lacks t id
IsFateOf t id (Freed queue) = (e : Element) × IsIn e t.elements × (e.id ≡ id) × (is_free_at queue.0 e ≡ true)
IsFateOf t id (Back queue attempts) =
    (e : Element) × IsIn e t.elements × (e.id ≡ id) × (is_free_at queue.0 e ≡ true) × (e.attempts ≡ attempts)
IsFateOf t id (Moved queue) =
    (e : Element) × IsIn e t.elements × (e.id ≡ id) × (is_free_at queue.0 e ≡ true) × (e.attempts ≡ 0)

-- After the end of a unit, each element is where its fate says
abbrev pub FatesComeTrue : Type 0
FatesComeTrue = (s : State) (r : Record) → IsWellFormed s
    → AllByRecursion (λ p. IsFateOf (step s r) p.0 p.1) (ends s r)
