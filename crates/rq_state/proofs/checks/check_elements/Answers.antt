use Rattle.std.proofs.Common.{arith}
use Rattle.rq_state.specs.Inside.{state_of}
use Rattle.rq_state.proofs.Telling.{tells_from}
use Rattle.rq_state.proofs.Tested.{elements_tested}
use Rattle.rq_state.proofs.checks.check_elements.Goals as goal

pub returns : goal.returns
returns c =
    let f = c.args.fields.now in
    let rise = rw c.deref.ensures.value at (c.do_elements_rise.ensures.0 c.in_ok-kept.ensures) in
    let tested = elements_tested (state_of f) f.elements.items in
    tells_from _ _ c.kept-2.result
    (λ t. grind arith)
    (λ k. grind arith) c.kept-2.ensures
