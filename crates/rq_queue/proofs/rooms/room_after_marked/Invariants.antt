use Rattle.std.proofs.Common.{◌≡◌, ◌+◌, ◌*◌, length}
use Rattle.rq_queue.specs.Kept.{items_of}
use Rattle.rq_queue.proofs.rooms.room_after_marked.Given as goal

abbrev pub invariant-loop-list : goal.invariant-loop-list
invariant-loop-list l =
    l.left + 28 * length (items_of l.marked.entries) ≡ l.fn.room + 28 * length (items_of l.list-iterator)
