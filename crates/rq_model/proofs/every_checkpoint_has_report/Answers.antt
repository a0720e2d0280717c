use Rattle.rq_model.proofs.Found.{every_checkpoint_has_report as proved}
use Rattle.rq_model.proofs.every_checkpoint_has_report.Goals as goal

pub returns : goal.returns
returns c = proved
