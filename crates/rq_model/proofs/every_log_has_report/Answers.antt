use Rattle.rq_model.proofs.Found.{every_log_has_report as proved}
use Rattle.rq_model.proofs.every_log_has_report.Goals as goal

pub returns : goal.returns
returns c = proved
