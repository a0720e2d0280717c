use Rattle.std.proofs.Common.{◌++◌, sym, ◌∙◌, subst, List}
use Rattle.std.specs.List.Sorted.{IsPermutation}
use Rattle.rq_model.specs.States.{Element}
use Rattle.rq_queue.proofs.elements.Elements.copies.Goals as goal

pub returns-clause-listed : goal.returns-clause-listed
returns-clause-listed c =
    subst (λ (xs : List Element). IsPermutation c.args.self.now xs)
    (sym (c.in_ok-copies.ensures.copied ∙ c.deref.ensures.value))
    (subst (λ (xs : List Element). IsPermutation (xs ++ c.args.self.now) c.lend.new.lent.items)
    c.new-lent.ensures.items c.in_ok-lend.ensures.lent)
