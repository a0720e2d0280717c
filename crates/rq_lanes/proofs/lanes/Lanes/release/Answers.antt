use Rattle.std.proofs.Common.{arith}
use Rattle.rq_lanes.proofs.Holding.{released}
use Rattle.rq_lanes.proofs.lanes.Lanes.release.Goals as goal

pub returns-clause-holds : goal.returns-clause-holds
returns-clause-holds g c = λ b ms h right. released b c.args.self.now ms c.args.j c.leave.new.self
    (omega arith) c.leave.ensures.busy h right
