-- What being well formed asks of each member, as a test.
use Rattle.std.specs.Prelude.{ℕ, ◌+◌, ◌==◌, nat_lt, nat_le, Bool, true, false, ◌&&◌, ◌||◌, List, []}
use Rattle.std.specs.Prelude.{◌∷◌, length, Option, Some, None}
use Rattle.std.specs.List.{list_all}
use Rattle.rq_model.specs.Records.{Version, One, Two, no_queue}
use Rattle.rq_model.specs.States.{Mark, Free, Fresh, Held, Kind, Enqueued, Dequeued, Element, Last}
use Rattle.rq_model.specs.States.{Note, Definition, Registrant, State, definition_at}
use Rattle.rq_model.specs.Machine.{is_open, is_registered}

abbrev pub unit_test : ℕ → ℕ → Bool
unit_test greatest unit = nat_le 1 unit && nat_le unit greatest

-- no limit and no error queue, or a limit and an error queue of smaller number
abbrev pub definition_test : ℕ → Definition → Bool
definition_test number d = ((d.limit == 0) && (d.error == no_queue))
    || (nat_le 1 d.limit && (nat_le d.limit 1000 && nat_lt d.error number))

abbrev pub definitions_test : ℕ → List Definition → Bool
definitions_test number [] = true
definitions_test number (d ∷ ds) = definition_test number d && definitions_test (number + 1) ds

-- its error queue has none itself
abbrev pub depth_test : List Definition → Definition → Bool
depth_test definitions d = (d.error == no_queue)
    || ((definition_at definitions d.error).error == no_queue)

-- in version 1 each has none
abbrev pub deep_test : Version → List Definition → Bool
deep_test One definitions = list_all (depth_test definitions) definitions
deep_test Two definitions = true

abbrev pub mark_test : State → Mark → Bool
mark_test s Free = true
mark_test s (Fresh unit) = is_open s unit
mark_test s (Held unit) = is_open s unit

abbrev pub limit_test : ℕ → ℕ → Bool
limit_test limit attempts = (limit == 0) || nat_lt attempts limit

abbrev pub element_test : State → Element → Bool
element_test s e =
    nat_lt e.id s.next
    && (nat_lt e.home (length s.definitions) && (nat_lt e.origin (length s.definitions)
    && (nat_le e.attempts s.next
    && (limit_test (definition_at s.definitions e.home).limit e.attempts && mark_test s e.mark))))

-- the element of an enqueue is its place; that of a dequeue is older
abbrev pub operation_test : Kind → ℕ → Option ℕ → Bool
operation_test Enqueued place None = false
operation_test Enqueued place (Some id) = id == place
operation_test Dequeued place None = true
operation_test Dequeued place (Some id) = nat_lt id place

abbrev pub last_test : ℕ → Last → Bool
last_test next l = nat_lt l.place next && operation_test l.kind l.place l.element

abbrev pub optional_test : ℕ → Option Last → Bool
optional_test next None = true
optional_test next (Some l) = last_test next l

abbrev pub registrant_test : State → Registrant → Bool
registrant_test s r = nat_lt r.queue (length s.definitions) && optional_test s.next r.last

abbrev pub note_test : State → Note → Bool
note_test s n = is_open s n.unit && (is_registered s n.queue n.name && last_test s.next n.last)
