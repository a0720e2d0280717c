use Rattle.std.proofs.Common.{◌≡◌, []}
use Rattle.std.specs.Map.{values_of}
use Rattle.rq_queue.specs.Priorities.{with_all}
use Rattle.rq_queue.proofs.priorities.of_free.Given as goal

abbrev pub invariant-loop-e : goal.invariant-loop-e
invariant-loop-e l = with_all l.e-iterator l.by_id.entries ≡ with_all (values_of l.free.entries) []
