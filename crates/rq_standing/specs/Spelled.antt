-- How the spelling of a state begins, what comes behind, and how long it is at least.
use Rattle.std.specs.Prelude.{ℕ, ◌≤◌, ◌+◌, ◌*◌, ◌++◌, List, length}
use Rattle.std.specs.Int.{w32, w64, to_be_bytes}
use Rattle.std.specs.List.{flat_map}
use Rattle.rq_model.specs.States.{State}
use Rattle.rq_standing.specs.declared.queues.Queues.{Queues}
use Rattle.rq_standing.specs.Stands.{HoldsState}
use Rattle.rq_model.specs.StateSpelling.{counted, definition_bytes, registrant_bytes, element_bytes, note_bytes}

-- its four counts, and the number of its definitions
abbrev pub head_of : State → List ℕ
head_of s = to_be_bytes w64 s.next
    ++ (to_be_bytes w64 s.greatest ++ (to_be_bytes w64 s.committed
    ++ (to_be_bytes w64 s.aborted ++ to_be_bytes w32 (length s.definitions))))

-- all behind the head, each list but that of the definitions behind the number of its members
abbrev pub members_of : State → List ℕ
members_of s = flat_map definition_bytes s.definitions ++ (counted (to_be_bytes w64) s.units
    ++ (counted registrant_bytes s.registrants
    ++ (counted element_bytes s.elements ++ counted note_bytes s.notes)))

-- the bytes of its numbers, and of its members, each in its shortest form
abbrev pub least_bytes : State → ℕ
least_bytes s = 52 + 7 * length s.definitions + 8 * length s.units
    + (6 * length s.registrants + 28 * length s.elements + 38 * length s.notes)

-- the queues hold a state of which a record can have all members
abbrev pub HoldsFew : Queues → Type 0
HoldsFew x = (t : State) × HoldsState x t × (least_bytes t ≤ 268435455)
