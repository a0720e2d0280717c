use Rattle.std.proofs.Common.{◌≡◌, ◌++◌, take}
use Rattle.rq_queue.proofs.lent.lend_list.Given as goal

abbrev pub invariant-loop-e : goal.invariant-loop-e
invariant-loop-e l = l.lent.items ≡ l.fn.lent.items ++ take l.e-index l.list
