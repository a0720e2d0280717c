use Rattle.rq_model.specs.Records.{Commit}
use Rattle.rq_live.specs.Managers.{stand_of}
use Rattle.rq_live.proofs.Managing.{commits_so, spent_stops}
use Rattle.rq_live.proofs.manager.Manager.commit.Goals as goal

pub returns-clause-safe : goal.returns-clause-safe
returns-clause-safe g c =
    commits_so (stand_of g.D.Device.written g.D.Device.synced g.D.Device.doubted g.D.Device.failed c.args.self.now)
    (stand_of g.D.Device.written g.D.Device.synced g.D.Device.doubted g.D.Device.failed c.commit_later.new.self)
    (stand_of g.D.Device.written g.D.Device.synced g.D.Device.doubted g.D.Device.failed c.settle.new.self) c.args.unit.0
    c.settle.result
    c.in_ok-commit_later.ensures.done c.settle.ensures.safe

pub returns-clause-refused : goal.returns-clause-refused
returns-clause-refused g c =
    spent_stops (stand_of g.D.Device.written g.D.Device.synced g.D.Device.doubted g.D.Device.failed c.args.self.now)
    (stand_of g.D.Device.written g.D.Device.synced g.D.Device.doubted g.D.Device.failed c.settle.new.self)
    (Commit c.args.unit.0) c.settle.result c.settle.ensures.refused
