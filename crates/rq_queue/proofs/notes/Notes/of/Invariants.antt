use Rattle.std.proofs.Common.{◌≡◌, ◌++◌, length, reverse}
use Rattle.rq_queue.proofs.notes.Notes.of.Given as goal

abbrev pub decreases-loop-n : goal.decreases-loop-n
decreases-loop-n l = length l.coming.items

abbrev pub invariant-loop-n : goal.invariant-loop-n
invariant-loop-n l = l.all ++ reverse l.coming.items ≡ l.fn.items.items
