use Rattle.std.proofs.Common.{◌≡◌, drop}
use Rattle.rq_queue.specs.Priorities.{with_all}
use Rattle.rq_queue.proofs.priorities.listed.Given as goal

abbrev pub invariant-loop-e : goal.invariant-loop-e
invariant-loop-e l = with_all (drop l.e-index l.list) l.by_id.entries ≡ with_all l.list l.fn.by_id.entries
