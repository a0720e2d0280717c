use Rattle.rq_model.specs.States as model
use Rattle.rq_standing.proofs.OneState.{one_state, are_one}
use Rattle.rq_standing.proofs.machine.Machine.empty.Goals as goal

pub invariant_of-result : goal.invariant_of-result
invariant_of-result c = are_one c.parts_make_the_state.ensures c.any_order_makes_the_state.ensures c.empty-queues.result
    model.empty c.numbers_rise.ensures c.empty-queues.ensures

pub returns : goal.returns
returns c = one_state c.parts_make_the_state.ensures c.any_order_makes_the_state.ensures c.empty-queues.result
    model.empty c.numbers_rise.ensures c.empty-queues.ensures
