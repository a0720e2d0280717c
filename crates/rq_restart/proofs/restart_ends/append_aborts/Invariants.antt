use Rattle.std.proofs.Common.{◌≡◌, ◌++◌, map}
use Rattle.rq_model.specs.Records as model
use Rattle.rq_record.specs.Views.{record_of}
use Rattle.rq_state.specs.Views.{unit_of}
use Rattle.rq_restart.proofs.restart_ends.append_aborts.Given as goal

abbrev pub invariant-loop-unit : goal.invariant-loop-unit
invariant-loop-unit l = map record_of l.records.items
    ≡ map record_of l.fn.records.items ++ map model.Abort (map unit_of l.yielded)
