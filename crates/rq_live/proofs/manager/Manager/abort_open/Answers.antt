use Rattle.rq_live.specs.Managers.{stand_of}
use Rattle.rq_live.proofs.Managing.{aborts_so, aborts_settled}
use Rattle.rq_live.proofs.manager.Manager.abort_open.Goals as goal

pub returns-then-len-le-WINDOW-clause-done : goal.returns-then-len-le-WINDOW-clause-done
returns-then-len-le-WINDOW-clause-done g c =
    aborts_so (stand_of g.D.Device.written g.D.Device.synced g.D.Device.doubted g.D.Device.failed c.args.self.now)
    c.abort_open.new.self c.in-Ok.ensures

pub returns-clause-done : goal.returns-clause-done
returns-clause-done g c =
    let a = (stand_of g.D.Device.written g.D.Device.synced g.D.Device.doubted g.D.Device.failed c.args.self.now) in
    aborts_settled a (record a { kernel = c.abort_open.new.self })
    (stand_of g.D.Device.written g.D.Device.synced g.D.Device.doubted g.D.Device.failed c.settle_pending.new.self)
    c.settle_pending.result (aborts_so a c.abort_open.new.self c.in-Ok.ensures) c.settle_pending.ensures.safe
