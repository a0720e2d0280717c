use Rattle.std.proofs.Common.{ℕ, List, ap}
use Rattle.rq_model.specs.Records.{Checkpoint}
use Rattle.rq_live.proofs.Taking.{marks_on, stops_mark}
use Rattle.rq_live.proofs.kernel.Kernel.mark.Goals as goal

pub returns-in-Ok-clause-marked : goal.returns-in-Ok-clause-marked
returns-in-Ok-clause-marked c =
    marks_on c.args.self.now c.take.new.self (Checkpoint c.in_ok-bytes.bytes) _ c.in-Ok.ensures.taken
    (ap (λ (b : List ℕ). Checkpoint b) c.in_ok-bytes.ensures.spelled) c.in_ok-bytes.ensures.fits c.in_ok-bytes.ensures.few

pub returns-clause-refused : goal.returns-clause-refused
returns-clause-refused c =
    stops_mark c.args.self.now c.take.new.self (Checkpoint c.in_ok-bytes.bytes) c.in-Err.why c.in-Err.ensures.refused
    (ap (λ (b : List ℕ). Checkpoint b) c.in_ok-bytes.ensures.spelled)
