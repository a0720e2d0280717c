use Rattle.std.proofs.Common.{◌++◌, sym, ap, ◌∙◌, subst, List, append_assoc}
use Rattle.std.specs.List.Sorted.{IsPermutation}
use Rattle.std.specs.Map.{values_of}
use Rattle.std.proofs.lemmas.List.Sorted.{IsPermutation-sym, IsPermutation-append_right}
use Rattle.rq_model.specs.States.{Element}
use Rattle.rq_queue.specs.Kept.{items_of}
use Rattle.rq_queue.specs.Listed.{contents, elements_inside}
use Rattle.rq_queue.proofs.Sorting.{same_elements}
use Rattle.rq_queue.proofs.elements.Elements.lend.Goals as goal

pub returns-clause-lent : goal.returns-clause-lent
returns-clause-lent c =
    let all = contents c.self.inside in
    let before = c.args.lent.now.items in
    subst (λ (xs : List Element). IsPermutation (before ++ c.args.self.now) xs)
    (sym (c.in_ok-lend_marked.ensures.lent
    ∙ (ap (λ (xs : List Element). xs ++ items_of c.self.inside.marked.entries) c.in_ok-lend_values.ensures.lent
    ∙ append_assoc before (values_of c.self.inside.free.entries) (items_of c.self.inside.marked.entries))))
    (subst (λ (xs : List Element). IsPermutation (before ++ xs) (before ++ all)) c.self.view_is
    (IsPermutation-append_right before (elements_inside c.self.inside) all
    (IsPermutation-sym all (elements_inside c.self.inside) (same_elements all))))
