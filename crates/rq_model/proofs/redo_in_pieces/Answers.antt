use Rattle.rq_model.proofs.StepParts.{midway_part}
use Rattle.rq_model.proofs.ChosenOps.{chosen_projection, chosen_goes_well}
use Rattle.rq_model.proofs.redo_in_pieces.Goals as goal

pub returns-clause-midway : goal.returns-clause-midway
returns-clause-midway c = midway_part

pub returns-clause-chosen : goal.returns-clause-chosen
returns-clause-chosen c = chosen_projection

pub returns-clause-goes : goal.returns-clause-goes
returns-clause-goes c = chosen_goes_well
