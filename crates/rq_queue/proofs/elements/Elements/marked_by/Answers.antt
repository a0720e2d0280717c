use Rattle.std.proofs.Common.{◌∙◌, ap, subst, List, []}
use Rattle.std.specs.List.{filter}
use Rattle.std.specs.List.Sorted.{IsPermutation}
use Rattle.rq_model.specs.Queues.{is_marked}
use Rattle.rq_model.specs.States.{Element}
use Rattle.rq_queue.proofs.Listing.{marked_are, items_at}
use Rattle.rq_queue.proofs.elements.Elements.marked_by.Goals as goal

pub returns-in-Some : goal.returns-in-Some
returns-in-Some c =
    subst (λ (es : List Element). IsPermutation c.deref.result.now (filter (λ (e : Element). is_marked c.args.unit.0 e.mark) es))
    c.self.view_is
    (marked_are c.args.unit.0 c.self.inside c.deref.result.now c.self.invariant c.len.ensures.ordered
    (c.deref.ensures.value ∙ ap items_at c.in-Some.ensures.value))

pub returns-in-None : goal.returns-in-None
returns-in-None c =
    subst (λ (es : List Element). IsPermutation [] (filter (λ (e : Element). is_marked c.args.unit.0 e.mark) es))
    c.self.view_is
    (marked_are c.args.unit.0 c.self.inside [] c.self.invariant c.len.ensures.ordered
    (ap items_at c.in-None.ensures.value))
