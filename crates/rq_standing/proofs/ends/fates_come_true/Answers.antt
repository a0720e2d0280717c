use Rattle.rq_standing.proofs.ComingTrue.{come_true}
use Rattle.rq_standing.proofs.ends.fates_come_true.Goals as goal

pub returns : goal.returns
returns c = come_true
