use Rattle.std.proofs.Common.{◌≡◌}
use Rattle.rq_queue.specs.Kept.{items_of}
use Rattle.rq_queue.specs.Priorities.{with_all}
use Rattle.rq_queue.proofs.priorities.with_marked.Given as goal

abbrev pub invariant-loop-list : goal.invariant-loop-list
invariant-loop-list l = with_all (items_of l.list-iterator) l.by_id.entries
    ≡ with_all (items_of l.marked.entries) l.fn.by_id.entries
