use Rattle.rq_record.specs.Views.{version_of}
use Rattle.rq_restart.proofs.Taking.{HasTaken}
use Rattle.rq_restart.proofs.pieces.take_each.Given as goal

abbrev pub invariant-loop-place : goal.invariant-loop-place
invariant-loop-place l = HasTaken (version_of l.version) l.fn.machine l.records l.place l.machine
