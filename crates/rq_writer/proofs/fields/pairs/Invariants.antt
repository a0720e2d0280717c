use Rattle.std.proofs.Common.{length}
use Rattle.rq_writer.proofs.Hex.{Decoded}
use Rattle.rq_writer.proofs.fields.pairs.Given as goal

abbrev pub invariant-loop-high : goal.invariant-loop-high
invariant-loop-high l = Decoded l.text l.bytes.items l.rest

abbrev pub decreases-loop-high : goal.decreases-loop-high
decreases-loop-high l = length l.rest
