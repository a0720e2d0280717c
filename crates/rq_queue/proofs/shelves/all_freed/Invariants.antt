use Rattle.std.proofs.Common.{List, length, reverse}
use Rattle.rq_model.specs.States.{Element}
use Rattle.rq_queue.specs.Kept.{Frees, unheld}
use Rattle.rq_queue.proofs.shelves.all_freed.Given as goal

abbrev pub decreases-loop-e : goal.decreases-loop-e
decreases-loop-e l = length l.coming.items

abbrev pub invariant-loop-e : goal.invariant-loop-e
invariant-loop-e l = (others : List Element) → Frees others l.fn.free.entries
    (unheld l.unit.0 l.fn.list.items) l.free.entries (unheld l.unit.0 (reverse l.coming.items))
