use Rattle.std.proofs.Common.{◌≡◌, ◌++◌}
use Rattle.rq_queue.specs.Kept.{items_of}
use Rattle.rq_queue.proofs.lent.lend_marked.Given as goal

abbrev pub invariant-loop-list : goal.invariant-loop-list
invariant-loop-list l = l.lent.items ++ items_of l.list-iterator ≡ l.fn.lent.items ++ items_of l.marked.entries
