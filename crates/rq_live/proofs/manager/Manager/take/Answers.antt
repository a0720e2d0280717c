use Rattle.rq_record.specs.Views.{record_of}
use Rattle.rq_live.specs.Managers.{stand_of}
use Rattle.rq_live.proofs.Managing.{done_so}
use Rattle.rq_live.proofs.manager.Manager.take.Goals as goal

pub returns-clause-taken : goal.returns-clause-taken
returns-clause-taken g c =
    done_so (stand_of g.D.Device.written g.D.Device.synced g.D.Device.doubted g.D.Device.failed c.args.self.now)
    (stand_of g.D.Device.written g.D.Device.synced g.D.Device.doubted g.D.Device.failed c.done.new.self)
    (stand_of g.D.Device.written g.D.Device.synced g.D.Device.doubted g.D.Device.failed c.settle_pending.new.self)
    (record_of c.args.next.now) c.in_ok-id.id
    c.in_ok-id.ensures.taken c.in_ok-settle_pending.ensures.safe
