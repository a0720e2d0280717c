use Rattle.rq_model.proofs.Balance.{all_are_free}
use Rattle.rq_model.proofs.Meaning.{one_record}
use Rattle.rq_model.proofs.Origins.{all_as_enqueued}
use Rattle.rq_model.proofs.as_enqueued.Goals as goal

pub returns : goal.returns
returns c = record { elements = all_as_enqueued; record_of = one_record; free = all_are_free }
