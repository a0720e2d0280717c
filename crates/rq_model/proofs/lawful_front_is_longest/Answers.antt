use Rattle.rq_model.proofs.Decided.{lawful_front_is_longest as proved}
use Rattle.rq_model.proofs.lawful_front_is_longest.Goals as goal

pub returns : goal.returns
returns c = proved
