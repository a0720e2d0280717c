use Rattle.std.proofs.Common.{arith, ◌∙◌, sym}
use Rattle.std.proofs.lemmas.List.Folds.{list_all-map}
use Rattle.rq_state.specs.Tests.{unit_test}
use Rattle.rq_state.specs.Views.{unit_of}
use Rattle.rq_state.proofs.Telling.{tells_from}
use Rattle.rq_state.proofs.Tested.{units_tested}
use Rattle.rq_state.proofs.checks.check_units.Goals as goal

pub returns : goal.returns
returns c =
    let f = c.args.fields.now in
    let told = c.are_units.ensures ∙ sym (list_all-map (unit_test f.greatest) unit_of c.deref-2.result.now)
    ∙ grind arith in
    let rise = rw c.deref.ensures.value at (c.do_units_rise.ensures.0 c.in_ok-kept.ensures) in
    let tested = units_tested _ _ in
    tells_from _ _ _ (λ t. grind arith) (λ k. told ∙ tested.1 k.units) c.kept-2.ensures
