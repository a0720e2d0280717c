use Rattle.std.proofs.Common.{rules}
use Rattle.std.proofs.lemmas.List.Sorted.{answers_always}
use Rattle.rq_model.specs.States.{name_before}
use Rattle.rq_state.proofs.Distinct.{names_told}
use Rattle.rq_state.proofs.checks.do_names_differ.Goals as goal

pub returns : goal.returns
returns c =
    let answer = rw c.deref.ensures.value at
    (c.is_sorted_by.ensures.cases name_before (answers_always _ _ _ (λ f a r g h. search rules))) in
    names_told _ _ _ c.sort_unstable.ensures.permutation c.sort_unstable.ensures.sorted answer
