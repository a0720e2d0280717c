-- The arguments of a redo.
use Rattle.std.specs.Prelude.{◌≡◌, ◌+◌, ◌<◌, ◌≤◌, ◌^◌, true, List, length}
use Rattle.rq_model.specs.Records.{Record, Version}
use Rattle.rq_model.specs.States.{State}
use Rattle.rq_model.specs.WellFormed.{IsWellFormed, Ordered}
use Rattle.rq_model.specs.Machine.{all_lawful, run}
use Rattle.rq_model.specs.Queues as queues

-- part, operations and arrivals are those of the part's queue in a lawful run of these records
pub record IsCase (version : Version) (s : State) (rs : List Record) (part : queues.Part)
    (ops : List queues.Op) (arrivals : List queues.Move) : Type 0 where
  pub well : IsWellFormed s
  pub lawful : all_lawful version s rs ≡ true
  pub fits : s.next + length rs < 2 ^ 64
  pub is_part : part ≡ queues.part_of (queues.with_definitions s rs) part.queue
  pub are_ops : ops ≡ queues.touching s rs part.queue
  pub are_arrivals : arrivals ≡ queues.arrivals s rs part.queue

abbrev pub HasCase : queues.Part → List queues.Op → List queues.Move → Type 0
HasCase part ops arrivals = (version : Version) × (s : State) × (rs : List Record)
    × IsCase version s rs part ops arrivals

-- whatever case they are of, the part after its records, and what leaves it
abbrev pub Redoes : queues.Part → List queues.Op → List queues.Move → queues.Part → List queues.Move
    → Type 0
Redoes part ops arrivals new sent = (version : Version) (s : State) (rs : List Record) →
    IsCase version s rs part ops arrivals
    → (new ≡ queues.part_of (run s rs) part.queue) × (sent ≡ queues.moves s rs part.queue)

-- by place
abbrev pub AreRising : List queues.Move → Type 0
AreRising moves = Ordered (λ m n. m.place ≤ n.place) moves
