use Rattle.std.proofs.Common.{subst}
use Rattle.rq_record.specs.Views.{record_of}
use Rattle.rq_live.specs.Kernels.{KernelStops}
use Rattle.rq_live.specs.Managers.{stand_of}
use Rattle.rq_live.specs.declared.kernel.NotDone.TheVariants.{Unlawful, Full}
use Rattle.rq_live.proofs.Managing.{managed_on, managed_stops}
use Rattle.rq_live.proofs.manager.Manager.done.Goals as goal

pub returns-in-Ok-clause-taken : goal.returns-in-Ok-clause-taken
returns-in-Ok-clause-taken g c =
    managed_on (stand_of g.D.Device.written g.D.Device.synced g.D.Device.doubted g.D.Device.failed c.args.self.now)
    c.take.new.self
    (record_of c.args.next.now) c.in-Ok.id c.in-Ok.ensures.taken

pub returns-in-Err-Unlawful-clause-refused : goal.returns-in-Err-Unlawful-clause-refused
returns-in-Err-Unlawful-clause-refused g c =
    let a = (stand_of g.D.Device.written g.D.Device.synced g.D.Device.doubted g.D.Device.failed c.args.self.now) in
    let why = subst (KernelStops a.kernel c.take.new.self (record_of c.args.next.now)) c.in-Err-Unlawful.field-0-is
    c.in-Err-Unlawful.ensures.refused in
    managed_stops a c.take.new.self (record_of c.args.next.now) (Unlawful c.in-Err-Unlawful.rule) why.0 why.1

pub returns-in-Err-Full-clause-refused : goal.returns-in-Err-Full-clause-refused
returns-in-Err-Full-clause-refused g c =
    let a = (stand_of g.D.Device.written g.D.Device.synced g.D.Device.doubted g.D.Device.failed c.args.self.now) in
    let why = subst (KernelStops a.kernel c.take.new.self (record_of c.args.next.now)) c.in-Err-Full.field-0-is
    c.in-Err-Full.ensures.refused in
    managed_stops a c.take.new.self (record_of c.args.next.now) Full why.0 why.1
