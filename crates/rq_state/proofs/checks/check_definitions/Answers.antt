use Rattle.std.proofs.Common.{arith, ◌∙◌}
use Rattle.rq_state.proofs.InOrder.{ordered_map}
use Rattle.rq_state.proofs.Neighbours.{ordered_unmap}
use Rattle.std.proofs.lemmas.Result.{err_from_is_err_and}
use Rattle.rq_state.specs.Inside.{state_of}
use Rattle.rq_state.proofs.Telling.{tells_from, tells_not}
use Rattle.rq_state.proofs.Tested.{definitions_tested, deep_tested}
use Rattle.rq_state.proofs.checks.check_definitions.Goals as goal

pub returns-in_err-kept : goal.returns-in_err-kept
returns-in_err-kept c =
    let p = err_from_is_err_and c.from_residual.result c.from_residual.ensures.1 in
    let told = rw c.deref.ensures.value at c.are_definitions.ensures in
    rw (p.1, p.2) (tells_not _ _ _ (λ k. told ∙ (definitions_tested 0 _).1 k.numbered) c.in_err-kept.ensures)

pub returns-in_err-kept-2 : goal.returns-in_err-kept-2
returns-in_err-kept-2 c =
    let p = err_from_is_err_and c.from_residual-in_err-kept-2.result c.from_residual-in_err-kept-2.ensures.1 in
    let s = state_of c.args.fields.now in
    let told = rw c.deref-2.ensures.value at c.are_deep_for.ensures in
    rw (p.1, p.2) (tells_not _ _ _ (λ k. told ∙ (deep_tested _ s).1 k.deep) c.in_err-kept-2.ensures)

pub returns : goal.returns
returns c =
    let s = state_of c.args.fields.now in
    let numbered = rw c.deref.ensures.value at c.are_definitions.ensures in
    let deep = rw c.deref-2.ensures.value at c.are_deep_for.ensures in
    let names = rw c.deref-3.ensures.value at c.in_ok-names.ensures.names in
    let differ = rw names at c.do_names_differ.ensures in
    tells_from _ _ _
    (λ t. record {
      numbered = (definitions_tested 0 _).0 (grind arith);
      deep = (deep_tested _ s).0 (grind arith);
      names = ordered_unmap _ _ _ (differ.0 t);
    }) (λ k. differ.1 (ordered_map _ _ _ k.names)) c.kept-3.ensures
