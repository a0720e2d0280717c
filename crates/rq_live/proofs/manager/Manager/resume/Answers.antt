use Rattle.std.proofs.Common.{◌+◌, ◌*◌, ◌<◌, ◌≤◌, refl, length, arith}
use Rattle.std.proofs.lemmas.Bool.Decides.{nat_tests}
use Rattle.rq_model.specs.Frames.{log_limit}
use Rattle.rq_live.specs.Managers.{stand_of}
use Rattle.rq_live.proofs.Managing.{leaves_fewer, no_room_for_ends, resumes_so}
use Rattle.rq_live.proofs.manager.Manager.resume.Goals as goal

pub returns-then-not-has_room_for_ends-clause-refused : goal.returns-then-not-has_room_for_ends-clause-refused
returns-then-not-has_room_for_ends-clause-refused g c =
    let k = c.args.self.now.kernel in
    let e = c.has_room_for_ends.ensures in
    let none = c.if-not-has_room_for_ends.true in
    let long : log_limit < k.len + 45 * length k.machine.units = grind (arith, nat_tests, e, none) in
    (refl, refl, refl, no_room_for_ends k long)

pub returns-then-not-has_room_for_ends-clause-keeps : goal.returns-then-not-has_room_for_ends-clause-keeps
returns-then-not-has_room_for_ends-clause-keeps g c = λ n few within.
    leaves_fewer (g.D.Device.written c.args.self.now.device) n (g.D.Device.synced c.args.self.now.device) within

pub returns-in_default-clause-keeps : goal.returns-in_default-clause-keeps
returns-in_default-clause-keeps g c = λ n few within.
    leaves_fewer (g.D.Device.written c.args.self.now.device) n (g.D.Device.synced c.args.self.now.device) within

pub returns-in-Ok-keep_first-clause-resumed : goal.returns-in-Ok-keep_first-clause-resumed
returns-in-Ok-keep_first-clause-resumed g c =
    let a = (stand_of g.D.Device.written g.D.Device.synced g.D.Device.doubted g.D.Device.failed c.args.self.now) in
    let e = c.has_room_for_ends.ensures in
    let some = c.if-not-has_room_for_ends.false in
    let room : a.kernel.len + 45 * length a.kernel.machine.units ≤ log_limit =
    grind (arith, nat_tests, e, some) in
    resumes_so a
    (stand_of g.D.Device.written g.D.Device.synced g.D.Device.doubted g.D.Device.failed c.keep_first.new.self)
    (stand_of g.D.Device.written g.D.Device.synced g.D.Device.doubted g.D.Device.failed c.settle_pending.new.self)
    c.abort_open.new.self c.settle_pending.result c.args.self.now.kernel.len refl room c.in-Ok.ensures
    c.in-Ok-keep_first.ensures.kernel c.in-Ok-keep_first.ensures.unspent c.in-Ok-keep_first.ensures.serves
    c.in-Ok-keep_first.ensures.bytes c.settle_pending.ensures.safe
