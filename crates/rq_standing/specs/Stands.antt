-- The queues of a state, and what a record does to them.
use Rattle.std.specs.Prelude.{ℕ, ◌≡◌, length, Option, Some, None, option_map, true}
use Rattle.rq_model.specs.Records.{Record, Register, Deregister, Enqueue, Dequeue, Kill, Version}
use Rattle.rq_model.specs.States.{State}
use Rattle.rq_model.specs.WellFormed.{IsWellFormed}
use Rattle.rq_model.specs.Machine.{is_lawful, best, step}
use Rattle.rq_standing.specs.Parts.{ArePartsOf}
use Rattle.rq_standing.specs.Units.{AreUnits}
use Rattle.rq_standing.specs.declared.queues.Queues.{Queues}

-- the queue that a record names
abbrev pub queue_named : Record → Option ℕ
queue_named (Register queue name) = Some queue
queue_named (Deregister queue name) = Some queue
queue_named (Enqueue unit queue priority by payload) = Some queue
queue_named (Dequeue unit queue by) = Some queue
queue_named (Kill queue element) = Some queue
queue_named r = None

-- the unit of an operation
abbrev pub unit_named : Record → Option ℕ
unit_named (Enqueue unit queue priority by payload) = Some unit
unit_named (Dequeue unit queue by) = Some unit
unit_named r = None

-- the id of the element that a DEQUEUE takes, if one is free; other records take none
abbrev pub taken : State → Record → Option ℕ
taken s (Dequeue unit queue by) = option_map (λ e. e.id) (best queue s.elements)
taken s r = None

-- they are the queues of the state
pub record HoldsState (x : Queues) (s : State) : Type 0 where
  pub well : IsWellFormed s
  pub next : x.next ≡ s.next
  pub greatest : x.greatest ≡ s.greatest
  pub committed : x.committed ≡ s.committed
  pub aborted : x.aborted ≡ s.aborted
  pub definitions : x.definitions.items ≡ s.definitions
  pub size : length x.parts.items ≡ length s.definitions
  pub parts : ArePartsOf s x.parts.items
  pub units : AreUnits x.units s

-- they are those of the state, but for the record number, which is as it was
pub record Moved (x y : Queues) (t : State) : Type 0 where
  pub next : y.next ≡ x.next
  pub greatest : y.greatest ≡ t.greatest
  pub committed : y.committed ≡ t.committed
  pub aborted : y.aborted ≡ t.aborted
  pub definitions : y.definitions.items ≡ t.definitions
  pub size : length y.parts.items ≡ length t.definitions
  pub parts : ArePartsOf t y.parts.items
  pub units : AreUnits y.units t

-- they hold a state after which the record is lawful
pub record May (x : Queues) (version : Version) (s : State) (r : Record) : Type 0 where
  pub holds : HoldsState x s
  pub lawful : is_lawful version s r ≡ true

abbrev pub MaySome : Queues → Record → Type 0
MaySome x r = (version : Version) × (s : State) × May x version s r

-- whatever state they held, they are those of the state after the record, but for the number
abbrev pub MovesBy : Queues → Queues → Record → Type 0
MovesBy x y r = (version : Version) (s : State) → May x version s r → Moved x y (step s r)

-- whatever state they held, this is the id of the element that the record takes there
abbrev pub TakesElement : Queues → Record → Option ℕ → Type 0
TakesElement x r id = (version : Version) (s : State) → May x version s r → id ≡ taken s r
