use Rattle.std.proofs.Common.{◌≡◌, ◌++◌, drop, map}
use Rattle.rq_model.specs.Records as model
use Rattle.rq_model.specs.Frames.{frames_of}
use Rattle.rq_state.specs.Views.{unit_of}
use Rattle.rq_restart.proofs.tails.append_aborts.Given as goal

abbrev pub invariant-loop-unit : goal.invariant-loop-unit
invariant-loop-unit l = l.out.items ++ frames_of l.last (map model.Abort (map unit_of (drop l.unit-index l.units)))
    ≡ l.fn.out.items ++ frames_of l.fn.prev (map model.Abort (map unit_of l.units))
