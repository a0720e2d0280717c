use Rattle.rq_model.proofs.Shuffled.{any_order}
use Rattle.rq_model.proofs.any_list_in_any_order.Goals as goal

pub returns : goal.returns
returns c = any_order
