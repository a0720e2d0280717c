use Rattle.std.proofs.Common.{◌≡◌, map, take}
use Rattle.rq_journal.specs.Carries.{as_told}
use Rattle.rq_journal.proofs.carried_logs.audit_carried.Given as goal

abbrev pub invariant-loop-offset : goal.invariant-loop-offset
invariant-loop-offset g l = l.told.items ≡ map as_told (take l.offset-index l.offset-items)
