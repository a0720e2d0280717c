use Rattle.std.proofs.Common.{◌≡◌, ℕ, length, ◌++◌, drop}
use Rattle.std.specs.Prelude.{◌==◌}
use Rattle.rq_state.specs.Orders.{listed, indices_of}
use Rattle.rq_state.proofs.tables.table_of.Given as goal

abbrev pub invariant-loop-index : goal.invariant-loop-index
invariant-loop-index g l = (length l.table.items ≡ l.queues)
    × ((queue : ℕ) → listed l.table.items queue
    ++ indices_of (λ x. g.M.OfQueue.queue_of x == queue) l.index (drop l.index l.members)
    ≡ indices_of (λ x. g.M.OfQueue.queue_of x == queue) 0 l.members)
