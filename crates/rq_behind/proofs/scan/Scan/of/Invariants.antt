use Rattle.rq_record.specs.Views.{version_of}
use Rattle.rq_behind.specs.Scans.{HasNoRecordBefore}
use Rattle.rq_behind.proofs.scan.Scan.of.Given as goal

abbrev pub invariant-loop-at : goal.invariant-loop-at
invariant-loop-at l = HasNoRecordBefore (version_of l.version) l.bytes l.from l.at
