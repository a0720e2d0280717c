use Rattle.std.proofs.Common.{rules}
use Rattle.std.specs.Prelude.{nat_lt}
use Rattle.std.proofs.lemmas.List.Sorted.{answers_always}
use Rattle.rq_state.specs.Views.{unit_of}
use Rattle.rq_state.proofs.Rises.{units_rise_by}
use Rattle.rq_state.proofs.checks.lists.do_units_rise.Goals as goal

pub returns : goal.returns
returns c = units_rise_by _ _
    (c.is_sorted_by.ensures.cases (λ u v. nat_lt (unit_of u) (unit_of v))
    (answers_always _ _ _ (λ f a r g h. search rules)))
