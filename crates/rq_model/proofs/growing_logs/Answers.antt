use Rattle.rq_model.proofs.Appended.{front_grows, front_stays}
use Rattle.rq_model.proofs.growing_logs.Goals as goal

pub returns : goal.returns
returns c = record { grows = front_grows; stays = front_stays }
