-- What happens to elements at a record, and the state behind it.
use Rattle.std.specs.Prelude.{ℕ, Bool, ◌&&◌, ◌==◌, Option, Some, None, if◌then◌else◌, List, [], ◌∷◌, map}
use Rattle.std.specs.List.{list_any}
use Rattle.rq_model.specs.Machine.{best, is_free_at, is_lawful, step}
use Rattle.rq_model.specs.Records.{Record, Enqueue, Dequeue, Commit, Abort, Kill, Two}
use Rattle.rq_model.specs.States.{Element, State}
use Rattle.rq_standing.specs.Ends.{ends}
use Rattle.rq_queue.specs.declared.fates.Fate.{Fate}
use Rattle.rq_queue.specs.declared.fates.Fate.TheVariants.{Gone}
use Rattle.rq_found.specs.declared.events.Effect.TheVariants.{Put, Taken, Ended}
use Rattle.rq_found.specs.declared.events.Event.{Event}
use Rattle.rq_found.specs.declared.events.Event.TheVariants.{NoElement, To}

-- to the element that a DEQUEUE takes, if one is free
abbrev pub at_taking : Option Element → Event
at_taking None = NoElement
at_taking (Some e) = To e.id Taken

-- to an element whose unit ends
abbrev pub at_end : ℕ × Fate → Event
at_end it = To it.0 (Ended it.1)

-- whether a KILL finds the element
abbrev pub finds : State → ℕ → ℕ → Bool
finds s queue element = list_any (λ e. is_free_at queue e && (e.id == element)) s.elements

abbrev pub at_killing : ℕ → Bool → Event
at_killing element there = if there then To element (Ended Gone) else NoElement

-- to each element that the record has to do with, as it is lawful
abbrev pub happens : State → Record → List Event
happens s (Enqueue unit queue priority by payload) = To s.next Put ∷ []
happens s (Dequeue unit queue by) = at_taking (best queue s.elements) ∷ []
happens s (Kill queue element) = at_killing element (finds s queue element) ∷ []
happens s (Commit unit) = map at_end (ends s (Commit unit))
happens s (Abort unit) = map at_end (ends s (Abort unit))
happens s r = []

-- a record that no log of version 2 may have changes nothing, and nothing happens
abbrev pub state_behind : State → Record → State
state_behind s r = if is_lawful Two s r then step s r else s

abbrev pub events_at : State → Record → List Event
events_at s r = if is_lawful Two s r then happens s r else []
