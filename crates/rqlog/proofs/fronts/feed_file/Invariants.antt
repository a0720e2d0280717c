use Rattle.std.proofs.Common.{ℕ, List}
use Rattle.rq_judged.specs.GrowingFronts.{GoesAlong}
use Rattle.rqlog.proofs.fronts.feed_file.Given as goal

abbrev pub invariant-loop : goal.invariant-loop
invariant-loop g l = (b : List ℕ) × GoesAlong b l.front
