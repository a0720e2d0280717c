use Rattle.rq_model.proofs.Closed.{one_closed, closed_front, closed_stands}
use Rattle.rq_model.proofs.closed_logs.Goals as goal

pub returns : goal.returns
returns c = record { one = one_closed; front = closed_front; stands = closed_stands }
