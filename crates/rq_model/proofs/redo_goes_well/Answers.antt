use Rattle.rq_model.proofs.GoesWell.{redo_goes_well as proved, goes_on as proved_on}
use Rattle.rq_model.proofs.redo_goes_well.Goals as goal

pub returns-clause-well : goal.returns-clause-well
returns-clause-well c = proved

pub returns-clause-steps : goal.returns-clause-steps
returns-clause-steps c = proved_on
