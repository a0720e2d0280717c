-- Which rules of the machine a record breaks.
use Rattle.std.specs.Prelude.{ℕ, ◌≡◌, ◌==◌, nat_lt, nat_le, Bool, true, false, if◌then◌else◌}
use Rattle.std.specs.Prelude.{List, length, Option, Some, None, option_map, is_some}
use Rattle.std.specs.List.{list_any}
use Rattle.std.specs.Str.{bytes_eq}
use Rattle.rq_model.specs.Records.{Record, Define, Register, Deregister, Begin, Enqueue, Dequeue, Commit, Abort, Kill}
use Rattle.rq_model.specs.Records.{Version, One, no_queue}
use Rattle.rq_model.specs.States.{State, Definition}
use Rattle.rq_model.specs.Machine.{is_open, is_defined, is_registered, may_be_error}
use Rattle.rq_lawful.specs.declared.rules.Rule.{Rule}
use Rattle.rq_lawful.specs.declared.rules.Rule.TheVariants.{NotOpen, NotDefined, NotRegistered, NotAbove, Taken, Full}
use Rattle.rq_lawful.specs.declared.rules.Rule.TheVariants.{NoLimit, NoErrorQueue, Above, Nested, NoKill}

-- the queue that the record defines
abbrev pub queue_defined : Record → Option Definition
queue_defined (Define limit error name) = Some (record { limit = limit; error = error; name = name })
queue_defined r = None

-- its limit, its error queue and its name
abbrev pub limit_defined : Record → Option ℕ
limit_defined r = option_map (λ d. d.limit) (queue_defined r)

abbrev pub error_defined : Record → Option ℕ
error_defined r = option_map (λ d. d.error) (queue_defined r)

abbrev pub name_defined : Record → Option (List ℕ)
name_defined r = option_map (λ d. d.name) (queue_defined r)

-- the unit that must be open for the record
abbrev pub unit_needed : Record → Option ℕ
unit_needed (Enqueue unit queue priority by payload) = Some unit
unit_needed (Dequeue unit queue by) = Some unit
unit_needed (Commit unit) = Some unit
unit_needed (Abort unit) = Some unit
unit_needed r = None

-- the queue that must be defined for the record
abbrev pub queue_needed : Record → Option ℕ
queue_needed (Define limit error name) = if limit == 0 then None else Some error
queue_needed (Register queue name) = Some queue
queue_needed (Enqueue unit queue priority by payload) = Some queue
queue_needed (Dequeue unit queue by) = Some queue
queue_needed (Kill queue element) = Some queue
queue_needed r = None

-- the queue and the name that must be registered with it for the record
abbrev pub registrant_needed : Record → Option (ℕ × List ℕ)
registrant_needed (Deregister queue name) = Some (queue, name)
registrant_needed (Enqueue unit queue priority by payload) = option_map (λ b. (queue, b.name)) by
registrant_needed (Dequeue unit queue by) = option_map (λ b. (queue, b.name)) by
registrant_needed r = None

abbrev pub is_kill_record : Record → Bool
is_kill_record (Kill queue element) = true
is_kill_record r = false

-- the record breaks this rule of the version in the state
abbrev pub Breaks : Version → State → Record → Rule → Type 0
Breaks version s r (NotOpen unit) = (unit_needed r ≡ Some unit.0) × (is_open s unit.0 ≡ false)
Breaks version s r (NotDefined queue) =
    (queue_needed r ≡ Some queue.0) × (is_defined s queue.0 ≡ false)
Breaks version s r (NotRegistered queue name) =
    (registrant_needed r ≡ Some (queue.0, name)) × (is_registered s queue.0 name ≡ false)
Breaks version s r (NotAbove unit greatest) =
    (r ≡ Begin unit.0) × (greatest ≡ s.greatest) × (nat_lt greatest unit.0 ≡ false)
Breaks version s r (Taken name) = (name_defined r ≡ Some name)
    × (list_any (λ d. bytes_eq d.name name) s.definitions ≡ true)
Breaks version s r Full =
    (is_some (queue_defined r) ≡ true) × (nat_lt (length s.definitions) 4096 ≡ false)
Breaks version s r (NoLimit error) = (limit_defined r ≡ Some 0)
    × (error_defined r ≡ Some error.0) × ((error.0 == no_queue) ≡ false)
Breaks version s r (NoErrorQueue limit) = (limit_defined r ≡ Some limit)
    × (queue_needed r ≡ Some no_queue) × (is_defined s no_queue ≡ false)
Breaks version s r (Above limit) =
    (limit_defined r ≡ Some limit) × (nat_le limit 1000 ≡ false)
Breaks version s r (Nested error) = (is_some (queue_defined r) ≡ true)
    × (queue_needed r ≡ Some error.0) × (may_be_error version s error.0 ≡ false)
Breaks version s r NoKill = (version ≡ One) × (is_kill_record r ≡ true)
