use Rattle.rq_model.proofs.WellFormedRuns.{moves_rise, arrivals_rise}
use Rattle.rq_model.proofs.moves_rise.Goals as goal

pub returns : goal.returns
returns c = record { moves = moves_rise; arrivals = arrivals_rise }
