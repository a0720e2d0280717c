use Rattle.std.proofs.Common.{◌≤◌, ◌++◌, length}
use Rattle.std.specs.List.{AllByRecursion}
use Rattle.std.specs.List.Sorted.{IsPermutation}
use Rattle.rq_queue.specs.Kept.{items_of, IsOfUnit}
use Rattle.rq_queue.proofs.Building.{AreFreeFrom}
use Rattle.rq_queue.proofs.shelves.parted.Given as goal

abbrev pub decreases-loop-at : goal.decreases-loop-at
decreases-loop-at l = l.at

abbrev pub invariant-loop-at : goal.invariant-loop-at
invariant-loop-at l = (l.at ≤ length l.free.items)
    × (AreFreeFrom l.at l.free.items × (AllByRecursion IsOfUnit l.marked.entries
    × IsPermutation l.fn.items.items (l.free.items ++ items_of l.marked.entries)))
