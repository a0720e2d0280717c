use Rattle.rq_model.proofs.Balance.{one_fate as proved, one_request}
use Rattle.rq_model.proofs.Meaning.{committed_has_one_fate}
use Rattle.rq_model.proofs.Taken.{others_are_untaken}
use Rattle.rq_model.proofs.one_fate.Goals as goal

pub returns : goal.returns
returns c = record {
  sum = proved;
  request = one_request;
  committed = committed_has_one_fate;
  others = others_are_untaken;
}
