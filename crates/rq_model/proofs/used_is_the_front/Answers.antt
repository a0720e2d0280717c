use Rattle.rq_model.proofs.Longest.{used_is_front}
use Rattle.rq_model.proofs.used_is_the_front.Goals as goal

pub returns : goal.returns
returns c = used_is_front
