use Rattle.std.proofs.Common.{◌≡◌, ◌+◌, length}
use Rattle.rq_queue.specs.Kept.{items_of}
use Rattle.rq_queue.proofs.searches.count_of_marked.Given as goal

abbrev pub invariant-loop-list : goal.invariant-loop-list
invariant-loop-list l = l.count + length (items_of l.list-iterator) ≡ length (items_of l.marked.entries)
