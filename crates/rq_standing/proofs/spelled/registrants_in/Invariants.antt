use Rattle.std.proofs.Common.{◌≡◌, take, sum_by, length}
use Rattle.rq_model.specs.Queues.{Part}
use Rattle.rq_standing.proofs.spelled.registrants_in.Given as goal

abbrev pub invariant-loop-part : goal.invariant-loop-part
invariant-loop-part l = l.count ≡ sum_by (λ (p : Part). length p.registrants) (take l.part-index l.parts)
