use Rattle.rq_model.proofs.ByQueue.{queue_is_decided as proved}
use Rattle.rq_model.proofs.queue_is_decided.Goals as goal

pub returns : goal.returns
returns c = proved
