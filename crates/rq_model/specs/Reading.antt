-- How a record and a state are read: what spells them, from left to right.
use Rattle.std.specs.Prelude.{ℕ, List, length, Option, Some, None, Bool, nat_le, ◌==◌, if◌then◌else◌, ⊤}
use Rattle.rq_bytes.specs.Readers.{Reader, byte, number, piece, all, ◌then◌, made, tested, alone}
use Rattle.rq_bytes.specs.Readers.{tagged, case, no_case, nothing, sized, counted_members}
use Rattle.rq_model.specs.Records.{By, Record, Define, Register, Deregister, Begin, Enqueue}
use Rattle.rq_model.specs.Records.{Dequeue, Commit, Abort, Checkpoint, Kill, Version, One, Two}
use Rattle.rq_model.specs.Spelling.{is_name}
use Rattle.rq_model.specs.States.{Mark, Free, Fresh, Held, Kind, Enqueued, Dequeued, Element, Last}
use Rattle.rq_model.specs.States.{Note, Definition, Registrant, State}

-- a name, to the end
unfoldable pub name_left : Reader (List ℕ)
name_left = tested is_name all

-- at most this many bytes, to the end
unfoldable pub at_most : ℕ → Reader (List ℕ)
at_most limit = tested (λ bytes. nat_le (length bytes) limit) all

abbrev pub is_zero : ℕ → Bool
is_zero n = n == 0

abbrev pub nobody : ℕ → Option By
nobody tag = None

abbrev pub somebody : List ℕ × ℕ → Option By
somebody x = Some (record { name = x.0; tag = x.1 })

-- after the byte 0 nobody, with the tag 0; after another byte a name of that many bytes, and a tag
abbrev pub who_behind : ℕ → Reader (Option By)
who_behind = case 0 (made nobody (tested is_zero (number 8)))
    (λ n. made somebody (tested is_name (piece n) then number 8))

unfoldable pub who_read : Reader (Option By)
who_read = tagged who_behind

-- The fields of each kind of record, to the end.

unfoldable pub define_read : Reader (ℕ × (ℕ × List ℕ))
define_read = number 2 then number 4 then name_left

-- of a REGISTER or DEREGISTER
unfoldable pub registration_read : Reader (ℕ × List ℕ)
registration_read = number 4 then name_left

-- of a BEGIN, COMMIT or ABORT
unfoldable pub unit_read : Reader ℕ
unit_read = alone (number 8)

unfoldable pub enqueue_read : Reader (ℕ × (ℕ × (ℕ × (Option By × List ℕ))))
enqueue_read = number 8 then number 4 then byte then who_read then at_most 65535

unfoldable pub dequeue_read : Reader (ℕ × (ℕ × Option By))
dequeue_read = alone (number 8 then number 4 then who_read)

unfoldable pub checkpoint_read : Reader (List ℕ)
checkpoint_read = at_most 268435455

-- only in version 2
unfoldable pub kill_read : Version → Reader (ℕ × ℕ)
kill_read One bytes = None
kill_read Two bytes = alone (number 4 then number 8) bytes

-- The record of these fields.

abbrev pub define_from : ℕ × (ℕ × List ℕ) → Record
define_from x = Define x.0 x.1.0 x.1.1

abbrev pub register_from : ℕ × List ℕ → Record
register_from x = Register x.0 x.1

abbrev pub deregister_from : ℕ × List ℕ → Record
deregister_from x = Deregister x.0 x.1

abbrev pub enqueue_from : ℕ × (ℕ × (ℕ × (Option By × List ℕ))) → Record
enqueue_from x = Enqueue x.0 x.1.0 x.1.1.0 x.1.1.1.0 x.1.1.1.1

abbrev pub dequeue_from : ℕ × (ℕ × Option By) → Record
dequeue_from x = Dequeue x.0 x.1.0 x.1.1

abbrev pub kill_from : ℕ × ℕ → Record
kill_from x = Kill x.0 x.1

-- the record after its kind
unfoldable pub record_behind : Version → ℕ → Reader Record
record_behind version =
    case 1 (made define_from define_read) (case 2 (made register_from registration_read)
    (case 3 (made deregister_from registration_read) (case 4 (made Begin unit_read)
    (case 5 (made enqueue_from enqueue_read) (case 6 (made dequeue_from dequeue_read)
    (case 7 (made Commit unit_read) (case 8 (made Abort unit_read)
    (case 9 (made Checkpoint checkpoint_read)
    (case 10 (made kill_from (kill_read version)) no_case)))))))))

-- the record that a body of the version spells
unfoldable pub record_read : Version → Reader Record
record_read version = tagged (record_behind version)

-- What members are made of.

unfoldable pub name_read : Reader (List ℕ)
name_read = tested is_name (sized byte)

-- 18446744073709551615 means none
abbrev pub id_from : ℕ → Option ℕ
id_from n = if n == 18446744073709551615 then None else Some n

unfoldable pub id_read : Reader (Option ℕ)
id_read = made id_from (number 8)

-- one value, whatever is read
abbrev pub always : {X : Type 0} → X → ⊤ → X
always x _ = x

unfoldable pub kind_read : Reader Kind
kind_read = tagged (case 1 (made (always Enqueued) nothing)
    (case 2 (made (always Dequeued) nothing) no_case))

unfoldable pub mark_read : Reader Mark
mark_read = tagged (case 0 (made (always Free) nothing)
    (case 1 (made Fresh (number 8)) (case 2 (made Held (number 8)) no_case)))

-- place, tag and element of an operation, after its kind
unfoldable pub operation_read : Reader (ℕ × (ℕ × Option ℕ))
operation_read = number 8 then number 8 then id_read

abbrev pub last_from : Kind → ℕ × (ℕ × Option ℕ) → Option Last
last_from kind x = Some (record { place = x.0; kind = kind; tag = x.1.0; element = x.1.1 })

unfoldable pub last_read : Reader (Option Last)
last_read = tagged (case 0 (made (always None) nothing)
    (case 1 (made (last_from Enqueued) operation_read)
    (case 2 (made (last_from Dequeued) operation_read) no_case)))

-- Members.

abbrev pub definition_from : ℕ × (ℕ × List ℕ) → Definition
definition_from x = record { limit = x.0; error = x.1.0; name = x.1.1 }

unfoldable pub definition_read : Reader Definition
definition_read = made definition_from (number 2 then number 4 then name_read)

abbrev pub registrant_from : ℕ × (List ℕ × Option Last) → Registrant
registrant_from x = record { queue = x.0; name = x.1.0; last = x.1.1 }

unfoldable pub registrant_read : Reader Registrant
registrant_read = made registrant_from (number 4 then name_read then last_read)

abbrev pub element_from : ℕ × (ℕ × (ℕ × (ℕ × (ℕ × (Mark × List ℕ))))) → Element
element_from x = record {
  id = x.0;
  home = x.1.0;
  origin = x.1.1.0;
  priority = x.1.1.1.0;
  attempts = x.1.1.1.1.0;
  mark = x.1.1.1.1.1.0;
  payload = x.1.1.1.1.1.1;
}

unfoldable pub element_read : Reader Element
element_read = made element_from (number 8 then number 4 then number 4 then byte then number 8
    then mark_read then sized (number 2))

abbrev pub note_from : ℕ × (ℕ × (ℕ × (List ℕ × (Kind × (ℕ × Option ℕ))))) → Note
note_from x = record {
  unit = x.1.0;
  queue = x.1.1.0;
  name = x.1.1.1.0;
  last = record {
    place = x.0;
    kind = x.1.1.1.1.0;
    tag = x.1.1.1.1.1.0;
    element = x.1.1.1.1.1.1;
  };
}

unfoldable pub note_read : Reader Note
note_read = made note_from (number 8 then number 8 then number 4 then name_read then kind_read
    then number 8 then id_read)

-- Four numbers and five lists.

abbrev pub Lists : Type 0
Lists = List Definition × (List ℕ × (List Registrant × (List Element × List Note)))

abbrev pub state_from : ℕ × (ℕ × (ℕ × (ℕ × Lists))) → State
state_from x = record {
  next = x.0;
  greatest = x.1.0;
  committed = x.1.1.0;
  aborted = x.1.1.1.0;
  definitions = x.1.1.1.1.0;
  units = x.1.1.1.1.1.0;
  registrants = x.1.1.1.1.1.1.0;
  elements = x.1.1.1.1.1.1.1.0;
  notes = x.1.1.1.1.1.1.1.1;
}

unfoldable pub state_read : Reader State
state_read = made state_from (number 8 then number 8 then number 8 then number 8
    then counted_members definition_read then counted_members (number 8)
    then counted_members registrant_read then counted_members element_read
    then counted_members note_read)
