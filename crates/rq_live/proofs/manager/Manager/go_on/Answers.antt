use Rattle.rq_live.specs.Managers.{stand_of}
use Rattle.rq_live.proofs.Carrying.{carries_over}
use Rattle.rq_live.proofs.manager.Manager.go_on.Goals as goal

pub returns-in_ok-stand_over-in-Ok-clause-carried : goal.returns-in_ok-stand_over-in-Ok-clause-carried
returns-in_ok-stand_over-in-Ok-clause-carried g c =
    carries_over (stand_of g.D.Device.written g.D.Device.synced g.D.Device.doubted g.D.Device.failed c.args.self.now)
    (stand_of g.D.Device.written g.D.Device.synced g.D.Device.doubted g.D.Device.failed c.stand_over.new.self)
    c.next-records.result c.in_ok-stand_over-in-Ok.ensures.over c.next-records.ensures
