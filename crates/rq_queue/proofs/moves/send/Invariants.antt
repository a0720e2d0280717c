use Rattle.std.proofs.Common.{◌≡◌, ◌++◌}
use Rattle.rq_queue.specs.Kept.{sent_from}
use Rattle.rq_queue.proofs.moves.send.Given as goal

abbrev pub invariant-loop-e : goal.invariant-loop-e
invariant-loop-e l = l.sent.items ≡ l.fn.sent.items ++ sent_from l.place l.home l.yielded
