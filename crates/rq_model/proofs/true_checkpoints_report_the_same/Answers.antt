use Rattle.rq_model.proofs.FromCheckpoints.{true_says_the_same}
use Rattle.rq_model.proofs.true_checkpoints_report_the_same.Goals as goal

pub returns : goal.returns
returns c = true_says_the_same
