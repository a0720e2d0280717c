use Rattle.std.proofs.Common.{◌≡◌, take}
use Rattle.rq_record.proofs.kept_record.kept_records.Given as goal

abbrev pub invariant-loop-r : goal.invariant-loop-r
invariant-loop-r l = l.kept.items ≡ take l.r-index l.records
