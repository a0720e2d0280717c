use Rattle.std.proofs.Common.{rules}
use Rattle.std.proofs.lemmas.List.Sorted.{answers_always}
use Rattle.rq_model.specs.States.{registrant_before}
use Rattle.rq_state.proofs.InOrder.{registrant_is_order}
use Rattle.rq_state.proofs.Rises.{rises_by}
use Rattle.rq_state.proofs.checks.lists.do_registrants_rise.Goals as goal

pub returns : goal.returns
returns c = rises_by _ registrant_is_order _ _
    (c.is_sorted_by.ensures.cases registrant_before (answers_always _ _ _ (λ f a r g h. search rules)))
