use Rattle.std.proofs.Common.{arith, ap, length}
use Rattle.rq_live.specs.Managers.{stand_of}
use Rattle.rq_live.proofs.Showing.{none_registered}
use Rattle.rq_live.proofs.manager.Manager.registered.Goals as goal

pub returns-then-queue-definitions-clause-registered : goal.returns-then-queue-definitions-clause-registered
returns-then-queue-definitions-clause-registered g c =
    let m = (stand_of g.D.Device.written g.D.Device.synced g.D.Device.doubted g.D.Device.failed c.args.self.now) in
    none_registered c.runs_are_well_formed.ensures.start c.runs_are_well_formed.ensures.runs m c.args.queue.0
    c.new.result.items c.new.ensures.items
    (omega (arith, ap length c.definitions.ensures, c.if-queue-definitions.true))
