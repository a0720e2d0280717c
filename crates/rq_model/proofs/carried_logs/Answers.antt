use Rattle.rq_model.proofs.Carried.{true_has_front, crash_while_carried_grows}
use Rattle.rq_model.proofs.FromCheckpoints.{greater_is_wider}
use Rattle.rq_model.proofs.carried_logs.Goals as goal

pub returns : goal.returns
returns c = record { front = true_has_front; crash = crash_while_carried_grows; wider = greater_is_wider }
