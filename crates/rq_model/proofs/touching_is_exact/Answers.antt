use Rattle.rq_model.proofs.Touching.{touching_is_exact as proved}
use Rattle.rq_model.proofs.touching_is_exact.Goals as goal

pub returns : goal.returns
returns c = proved
