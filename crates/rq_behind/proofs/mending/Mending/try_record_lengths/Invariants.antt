use Rattle.std.proofs.Common.{false}
use Rattle.rq_behind.specs.Mending.{IsTried}
use Rattle.rq_behind.proofs.mending.Mending.try_record_lengths.Given as goal

abbrev pub invariant-places : goal.invariant-places
invariant-places l = IsTried l.fn.self l.self false
