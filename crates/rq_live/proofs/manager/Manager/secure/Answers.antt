use Rattle.std.proofs.Common.{◌+◌, ◌*◌, ◌<◌, ◌≤◌, refl, length, arith}
use Rattle.std.proofs.lemmas.Bool.Decides.{nat_tests}
use Rattle.rq_model.specs.Frames.{log_limit}
use Rattle.rq_live.specs.Managers.{stand_of}
use Rattle.rq_live.proofs.Managing.{secures_so, no_room_for_ends, spent_resume}
use Rattle.rq_live.proofs.manager.Manager.secure.Goals as goal

pub returns-then-not-has_room_for_ends-clause-refused : goal.returns-then-not-has_room_for_ends-clause-refused
returns-then-not-has_room_for_ends-clause-refused g c =
    let k = c.args.self.now.kernel in
    let e = c.has_room_for_ends.ensures in
    let none = c.if-not-has_room_for_ends.true in
    let long : log_limit < k.len + 45 * length k.machine.units = grind (arith, nat_tests, e, none) in
    (refl, refl, refl, no_room_for_ends k long)

pub returns-clause-secured : goal.returns-clause-secured
returns-clause-secured g c =
    let a = (stand_of g.D.Device.written g.D.Device.synced g.D.Device.doubted g.D.Device.failed c.args.self.now) in
    let b = (stand_of g.D.Device.written g.D.Device.synced g.D.Device.doubted g.D.Device.failed c.keep_first.new.self) in
    let e = c.has_room_for_ends.ensures in
    let some = c.if-not-has_room_for_ends.false in
    let room : a.kernel.len + 45 * length a.kernel.machine.units ≤ log_limit =
    grind (arith, nat_tests, e, some) in
    secures_so a b c.keep_first.result c.args.self.now.kernel.len refl room c.keep_first.ensures.kernel
    c.keep_first.ensures.unspent c.keep_first.ensures.serves c.keep_first.ensures.bytes

pub returns-clause-refused : goal.returns-clause-refused
returns-clause-refused g c =
    spent_resume (stand_of g.D.Device.written g.D.Device.synced g.D.Device.doubted g.D.Device.failed c.args.self.now)
    (stand_of g.D.Device.written g.D.Device.synced g.D.Device.doubted g.D.Device.failed c.keep_first.new.self)
    c.keep_first.result c.keep_first.ensures.refused
