use Rattle.std.proofs.Common.{sym, subst, ap, arith, length}
use Rattle.rq_live.specs.Managers.{IsDepth, stand_of}
use Rattle.rq_live.proofs.Showing.{no_depth}
use Rattle.rq_live.proofs.manager.Manager.depths.Goals as goal

pub returns-then-queue-definitions-clause-free : goal.returns-then-queue-definitions-clause-free
returns-then-queue-definitions-clause-free g c =
    let m = (stand_of g.D.Device.written g.D.Device.synced g.D.Device.doubted g.D.Device.failed c.args.self.now) in
    subst (IsDepth m c.args.queue.0) (sym c.none.ensures)
    (no_depth c.runs_are_well_formed.ensures.start c.runs_are_well_formed.ensures.runs m c.args.queue.0
    (omega (arith, ap length c.definitions.ensures, c.if-queue-definitions.true)))
