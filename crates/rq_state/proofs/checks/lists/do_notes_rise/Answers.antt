use Rattle.std.proofs.Common.{rules}
use Rattle.std.specs.Prelude.{nat_lt}
use Rattle.std.proofs.lemmas.List.Sorted.{answers_always}
use Rattle.rq_state.proofs.Rises.{rises_by_number}
use Rattle.rq_state.proofs.checks.lists.do_notes_rise.Goals as goal

pub returns : goal.returns
returns c = rises_by_number _ _ _
    (c.is_sorted_by.ensures.cases (λ n m. nat_lt n.last.place m.last.place)
    (answers_always _ _ _ (λ f a r g h. search rules)))
