use Rattle.std.proofs.Common.{◌≤◌}
use Rattle.rq_queue.proofs.queue_redo.aborts_ahead.Given as goal

abbrev pub invariant-loop-index : goal.invariant-loop-index
invariant-loop-index l = l.aborts ≤ l.index
