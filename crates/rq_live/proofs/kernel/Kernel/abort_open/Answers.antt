use Rattle.std.proofs.Common.{List, map, subst}
use Rattle.std.specs.Prelude.{OnOk}
use Rattle.rq_model.specs.Records.{Abort}
use Rattle.rq_record.specs.declared.record.UnitNo.{UnitNo}
use Rattle.rq_state.specs.Views.{unit_of}
use Rattle.rq_live.specs.Kernels.{KernelTakesEach}
use Rattle.rq_live.proofs.Taking.{takes_ends}
use Rattle.rq_live.proofs.kernel.Kernel.abort_open.Goals as goal

pub returns-in-Ok : goal.returns-in-Ok
returns-in-Ok c =
    takes_ends c.args.self.now c.abort_each.new.self (map unit_of c.in-Ok.units.items) c.abort_each.result
    c.in-Ok.ensures.units
    (subst (λ (us : List UnitNo). OnOk c.abort_each.result
    (KernelTakesEach c.args.self.now c.abort_each.new.self (map Abort (map unit_of us))))
    c.deref.ensures.value c.abort_each.ensures)
