use Rattle.std.proofs.Common.{◌≡◌, take}
use Rattle.rq_queue.proofs.lent.copied.Given as goal

abbrev pub invariant-loop-e : goal.invariant-loop-e
invariant-loop-e l = l.copies.items ≡ take l.e-index l.lent
