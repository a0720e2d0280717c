use Rattle.std.proofs.Common.{arith}
use Rattle.sha2.proofs.Absorbing256.{padding-take}
use Rattle.rq_lanes.proofs.tail.front.Goals as goal

pub returns : goal.returns
returns c = padding-take 0x80 0 c.args.zeros (omega arith)
