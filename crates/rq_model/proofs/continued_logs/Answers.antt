use Rattle.rq_model.proofs.Carried.{moves_on, later_says_the_same, files_join}
use Rattle.rq_model.proofs.continued_logs.Goals as goal

pub returns : goal.returns
returns c = record { moves = moves_on; later = later_says_the_same; join = files_join }
