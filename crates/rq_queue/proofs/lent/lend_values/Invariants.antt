use Rattle.std.proofs.Common.{◌≡◌, ◌++◌}
use Rattle.std.specs.Map.{values_of}
use Rattle.rq_queue.proofs.lent.lend_values.Given as goal

abbrev pub invariant-loop-member : goal.invariant-loop-member
invariant-loop-member g l = l.lent.items ++ l.member-iterator ≡ l.fn.lent.items ++ values_of l.members.entries
