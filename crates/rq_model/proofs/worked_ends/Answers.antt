use Rattle.rq_model.proofs.WorkedReports.{ended}
use Rattle.rq_model.proofs.worked_ends.Goals as goal

pub returns : goal.returns
returns c = ended
