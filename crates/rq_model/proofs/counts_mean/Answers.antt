use Rattle.rq_model.proofs.Balance.{runs_end}
use Rattle.rq_model.proofs.Meaning.{count_is_none, count_is_one, outcome_is_ahead}
use Rattle.rq_model.proofs.counts_mean.Goals as goal

pub returns : goal.returns
returns c = record { none = count_is_none; one = count_is_one; ahead = outcome_is_ahead; ends = runs_end }
