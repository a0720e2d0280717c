use Rattle.rq_live.specs.Managers.{stand_of}
use Rattle.rq_live.proofs.Managing.{marks_so}
use Rattle.rq_live.proofs.manager.Manager.checkpoint.Goals as goal

pub returns-clause-marked : goal.returns-clause-marked
returns-clause-marked g c =
    marks_so c.one_front.ensures.stops c.frames_are_right.ensures.right c.appended_logs.ensures.front
    c.appended_checkpoints.ensures.truth c.continued_logs.ensures.later
    (stand_of g.D.Device.written g.D.Device.synced g.D.Device.doubted g.D.Device.failed c.args.self.now)
    (stand_of g.D.Device.written g.D.Device.synced g.D.Device.doubted g.D.Device.failed c.marked.new.self)
    (stand_of g.D.Device.written g.D.Device.synced g.D.Device.doubted g.D.Device.failed c.settle_pending.new.self)
    c.in_ok-offset.offset
    c.in_ok-offset.ensures.marked c.in_ok-settle_pending.ensures.safe
