use Rattle.rq_model.proofs.WorkedReports.{worked_bytes as proved}
use Rattle.rq_model.proofs.worked_bytes.Goals as goal

pub returns : goal.returns
returns c = proved
