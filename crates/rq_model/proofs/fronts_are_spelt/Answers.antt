use Rattle.rq_model.proofs.Restarts.{fronts_are_spelt as proved}
use Rattle.rq_model.proofs.fronts_are_spelt.Goals as goal

pub returns : goal.returns
returns c = proved
