use Rattle.std.proofs.Common.{refl, subst}
use Rattle.rq_live.specs.declared.kernel.NotDone.TheVariants.{Full, Large, Ended}
use Rattle.rq_live.specs.Kernels.{KernelStopsMark}
use Rattle.rq_live.specs.Managers.{stand_of}
use Rattle.rq_live.proofs.Managing.{managed_marks, stops_there}
use Rattle.rq_live.proofs.manager.Manager.marked.Goals as goal

pub returns-in-Ok-clause-marked : goal.returns-in-Ok-clause-marked
returns-in-Ok-clause-marked g c =
    managed_marks (stand_of g.D.Device.written g.D.Device.synced g.D.Device.doubted g.D.Device.failed c.args.self.now)
    c.mark.new.self c.args.self.now.kernel.len c.in-Ok.ensures.marked refl (λ from rs m. m.at.len)

pub returns-in-Err-Full-clause-refused : goal.returns-in-Err-Full-clause-refused
returns-in-Err-Full-clause-refused g c =
    let a = (stand_of g.D.Device.written g.D.Device.synced g.D.Device.doubted g.D.Device.failed c.args.self.now) in
    let why = subst (KernelStopsMark a.kernel c.mark.new.self) c.in-Err-Full.field-0-is c.in-Err-Full.ensures.refused in
    stops_there a c.mark.new.self Full why.0 why.1

pub returns-in-Err-Large-clause-refused : goal.returns-in-Err-Large-clause-refused
returns-in-Err-Large-clause-refused g c =
    let a = (stand_of g.D.Device.written g.D.Device.synced g.D.Device.doubted g.D.Device.failed c.args.self.now) in
    let why = subst (KernelStopsMark a.kernel c.mark.new.self) c.in-Err-Large.field-0-is
    c.in-Err-Large.ensures.refused in
    stops_there a c.mark.new.self Large why.0 why.1

pub returns-in-Err-Ended-clause-refused : goal.returns-in-Err-Ended-clause-refused
returns-in-Err-Ended-clause-refused g c =
    let a = (stand_of g.D.Device.written g.D.Device.synced g.D.Device.doubted g.D.Device.failed c.args.self.now) in
    let why = subst (KernelStopsMark a.kernel c.mark.new.self) c.in-Err-Ended.field-0-is
    c.in-Err-Ended.ensures.refused in
    stops_there a c.mark.new.self Ended why.0 why.1
