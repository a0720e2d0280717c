use Rattle.rq_live.specs.Managers.{stand_of}
use Rattle.rq_live.proofs.Managing.{commit_stops}
use Rattle.rq_live.proofs.manager.Manager.commit_later.Goals as goal

pub returns-in-Ok-clause-done : goal.returns-in-Ok-clause-done
returns-in-Ok-clause-done g c = λ from rs m.
    let x = c.in-Ok.ensures.taken from rs m in
    (x.0, x.1)

pub returns-clause-refused : goal.returns-clause-refused
returns-clause-refused g c =
    commit_stops (stand_of g.D.Device.written g.D.Device.synced g.D.Device.doubted g.D.Device.failed c.args.self.now)
    (stand_of g.D.Device.written g.D.Device.synced g.D.Device.doubted g.D.Device.failed c.take.new.self) c.args.unit.0
    c.in-Err.why c.in-Err.ensures.refused
