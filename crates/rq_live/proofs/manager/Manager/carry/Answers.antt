use Rattle.std.proofs.Common.{◌∙◌, sym}
use Rattle.std.proofs.lemmas.Bool.{false≢true}
use Rattle.rq_live.specs.Managers.{stand_of}
use Rattle.rq_live.proofs.Managing.{all_safe}
use Rattle.rq_live.proofs.Carrying.{carries_so, stops_so}
use Rattle.rq_live.proofs.manager.Manager.carry.Goals as goal

pub returns-in-Ok-clause-carried : goal.returns-in-Ok-clause-carried
returns-in-Ok-clause-carried g c =
    carries_so (stand_of g.D.Device.written g.D.Device.synced g.D.Device.doubted g.D.Device.failed c.args.self.now)
    (stand_of g.D.Device.written g.D.Device.synced g.D.Device.doubted g.D.Device.failed c.settle_pending.new.self)
    (stand_of g.D.Device.written g.D.Device.synced g.D.Device.doubted g.D.Device.failed c.carry_settled.new.self)
    c.carry_settled.result c.in-Ok.ensures.safe c.carry_settled.ensures.carried

pub returns-in-Ok-clause-refused : goal.returns-in-Ok-clause-refused
returns-in-Ok-clause-refused g c =
    stops_so (stand_of g.D.Device.written g.D.Device.synced g.D.Device.doubted g.D.Device.failed c.args.self.now)
    (stand_of g.D.Device.written g.D.Device.synced g.D.Device.doubted g.D.Device.failed c.settle_pending.new.self)
    (stand_of g.D.Device.written g.D.Device.synced g.D.Device.doubted g.D.Device.failed c.carry_settled.new.self)
    c.carry_settled.result c.in-Ok.ensures.safe c.carry_settled.ensures.refused

pub returns-in-Ok-clause-all : goal.returns-in-Ok-clause-all
returns-in-Ok-clause-all g c =
    all_safe (stand_of g.D.Device.written g.D.Device.synced g.D.Device.doubted g.D.Device.failed
    c.carry_settled.new.self) c.carry_settled.ensures.none

pub returns-in-Err-clause-all : goal.returns-in-Err-clause-all
returns-in-Err-clause-all g c =
    all_safe (stand_of g.D.Device.written g.D.Device.synced g.D.Device.doubted g.D.Device.failed
    c.settle_pending.new.self)
    (λ unspent. absurd (false≢true (sym unspent ∙ c.in-Err.ensures.refused.1)))
