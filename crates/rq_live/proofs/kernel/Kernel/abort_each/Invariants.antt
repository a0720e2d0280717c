use Rattle.std.proofs.Common.{take, map}
use Rattle.rq_model.specs.Records as model
use Rattle.rq_state.specs.Views.{unit_of}
use Rattle.rq_live.specs.Kernels.{KernelTakesEach}
use Rattle.rq_live.proofs.kernel.Kernel.abort_each.Given as goal

-- the units so far are aborted
abbrev pub invariant-loop-unit : goal.invariant-loop-unit
invariant-loop-unit l = KernelTakesEach l.fn.self l.self (map model.Abort (map unit_of (take l.unit-index l.units)))
