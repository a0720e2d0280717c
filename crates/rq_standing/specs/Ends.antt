-- What becomes of the elements that a unit put in or took, when it ends.
use Rattle.std.specs.Prelude.{ℕ, ◌==◌, ◌&&◌, Bool, Option, Some, None, List, [], ◌∷◌, filter}
use Rattle.std.specs.List.{flat_map}
use Rattle.rq_model.specs.Queues.{is_marked}
use Rattle.rq_model.specs.Records.{Record, Commit, Abort}
use Rattle.rq_model.specs.States.{State, Element, Definition, definition_at}
use Rattle.rq_queue.specs.Fates.{fate_under}
use Rattle.rq_queue.specs.declared.fates.Fate.{Fate}

-- an element with its fate, if it has one
abbrev pub fated : ℕ → Option Fate → List (ℕ × Fate)
fated id None = []
fated id (Some fate) = (id, fate) ∷ []

-- the elements of these that the end of a unit changes, each with what becomes of it
abbrev pub fates : List Definition → Record → List Element → List (ℕ × Fate)
fates definitions r es = flat_map (λ e. fated e.id (fate_under r (definition_at definitions e.home) e)) es

-- of all elements, by id
abbrev pub ends : State → Record → List (ℕ × Fate)
ends s r = fates s.definitions r s.elements

-- the unit that the record ends
abbrev pub unit_ended : Record → Option ℕ
unit_ended (Commit unit) = Some unit
unit_ended (Abort unit) = Some unit
unit_ended r = None

-- the elements that the unit put in or took, of the queues that pass
abbrev pub marked_where : ℕ → (ℕ → Bool) → List Element → List Element
marked_where unit p es = filter (λ e. is_marked unit e.mark && p e.home) es
