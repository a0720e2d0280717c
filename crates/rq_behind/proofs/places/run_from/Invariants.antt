use Rattle.rq_record.specs.Views.{version_of}
use Rattle.rq_behind.specs.Behind.{HasNoRunBefore}
use Rattle.rq_behind.proofs.places.run_from.Given as goal

abbrev pub invariant-loop-at : goal.invariant-loop-at
invariant-loop-at l = HasNoRunBefore (version_of l.version) l.bytes l.from l.at
