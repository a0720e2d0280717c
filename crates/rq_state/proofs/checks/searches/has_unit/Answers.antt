use Rattle.std.proofs.Common.{rules, ◌∙◌}
use Rattle.std.proofs.lemmas.List.Sorted.{answers_always}
use Rattle.rq_state.specs.Views.{unit_of}
use Rattle.rq_state.proofs.Searched.{units_searched}
use Rattle.rq_state.proofs.checks.searches.has_unit.Goals as goal

pub returns : goal.returns
returns c =
    let search_ok = c.binary_search_by_key.ensures in
    c.is_ok.ensures.value ∙ units_searched _ _ _ search_ok.bound
    (search_ok.position unit_of (answers_always _ _ _ (λ f a r g h. search rules))) c.requires
