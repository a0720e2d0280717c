use Rattle.std.proofs.Common.{◌∙◌, ap}
use Rattle.std.specs.Io.KnownBytes.{append_known}
use Rattle.rq_live.specs.Managers.{stand_of}
use Rattle.rq_live.proofs.Managing.{settles, all_safe}
use Rattle.rq_live.proofs.manager.Manager.settle_pending.Goals as goal

pub returns-in-Ok-clause-safe : goal.returns-in-Ok-clause-safe
returns-in-Ok-clause-safe g c =
    let a = (stand_of g.D.Device.written g.D.Device.synced g.D.Device.doubted g.D.Device.failed c.args.self.now) in
    let d = c.settle.new.device in
    settles a (g.D.Device.written d) (g.D.Device.synced d) (g.D.Device.doubted d) (g.D.Device.failed d) c.clear.new.self
    c.in-Ok.ensures.fails c.in-Ok.ensures.doubts
    (c.in-Ok.ensures.bytes ∙ ap (append_known a.written) c.deref.ensures.value)
    c.in-Ok.ensures.synced c.clear.ensures.items

pub returns-in-Ok-clause-all : goal.returns-in-Ok-clause-all
returns-in-Ok-clause-all g c =
    let d = c.settle.new.device in
    let a = (stand_of g.D.Device.written g.D.Device.synced g.D.Device.doubted g.D.Device.failed c.args.self.now) in
    all_safe (record {
      written = g.D.Device.written d;
      synced = g.D.Device.synced d;
      doubted = g.D.Device.doubted d;
      failed = g.D.Device.failed d;
      spent = a.spent;
      kernel = record (a.kernel) { pending = c.clear.new.self };
    }) (λ unspent. c.clear.ensures.items)
