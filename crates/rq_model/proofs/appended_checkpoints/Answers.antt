use Rattle.rq_model.proofs.Marked.{checkpoint_is_true, checkpoint_says_the_same}
use Rattle.rq_model.proofs.appended_checkpoints.Goals as goal

pub returns : goal.returns
returns c = record { truth = checkpoint_is_true; queues = checkpoint_says_the_same }
