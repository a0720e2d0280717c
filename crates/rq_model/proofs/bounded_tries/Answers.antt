use Rattle.rq_model.proofs.Taken.{takes_are_tries}
use Rattle.rq_model.proofs.Tried.{bounded_tries as proved, attempts_are_tries}
use Rattle.rq_model.proofs.bounded_tries.Goals as goal

pub returns : goal.returns
returns c = record { bounded = proved; attempts = attempts_are_tries; takes = takes_are_tries }
