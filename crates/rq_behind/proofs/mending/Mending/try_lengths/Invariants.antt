use Rattle.std.proofs.Common.{false}
use Rattle.rq_behind.specs.Mending.{IsTried}
use Rattle.rq_behind.proofs.mending.Mending.try_lengths.Given as goal

abbrev pub invariant-others : goal.invariant-others
invariant-others l = IsTried l.fn.self l.self false
