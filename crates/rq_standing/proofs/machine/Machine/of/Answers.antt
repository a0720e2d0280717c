use Rattle.rq_standing.proofs.OneState.{one_state, are_one}
use Rattle.rq_standing.proofs.machine.Machine.of.Goals as goal

pub invariant_of-result : goal.invariant_of-result
invariant_of-result c = are_one c.parts_make_the_state.ensures c.any_order_makes_the_state.ensures
    c.in_ok-queues.queues c.args.state.now c.numbers_rise.ensures c.in_ok-queues.ensures.holds

pub returns-clause-made : goal.returns-clause-made
returns-clause-made c = one_state c.parts_make_the_state.ensures c.any_order_makes_the_state.ensures
    c.in_ok-queues.queues c.args.state.now c.numbers_rise.ensures c.in_ok-queues.ensures.holds
