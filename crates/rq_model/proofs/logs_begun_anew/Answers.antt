use Rattle.rq_model.proofs.Carried.{starts_anew, front_goes_on, anew_joins}
use Rattle.rq_model.proofs.logs_begun_anew.Goals as goal

pub returns : goal.returns
returns c = record { starts = starts_anew; front = front_goes_on; join = anew_joins }
