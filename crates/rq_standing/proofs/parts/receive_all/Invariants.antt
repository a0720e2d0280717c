use Rattle.std.proofs.Common.{length, reverse}
use Rattle.rq_standing.proofs.UnitEnds.{AreLeft}
use Rattle.rq_standing.proofs.parts.receive_all.Given as goal

abbrev pub decreases-loop-arrival : goal.decreases-loop-arrival
decreases-loop-arrival l = length l.coming.items

abbrev pub invariant-loop-arrival : goal.invariant-loop-arrival
invariant-loop-arrival l = AreLeft (reverse l.coming.items) l.fn.arrivals.items l.fn.parts.items l.parts.items
