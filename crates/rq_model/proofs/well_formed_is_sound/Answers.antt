use Rattle.rq_model.proofs.WellFormedRuns.{sound}
use Rattle.rq_model.proofs.well_formed_is_sound.Goals as goal

pub returns : goal.returns
returns c = sound
