use Rattle.std.proofs.Common.{◌∙◌, not, ap, List, length, arith}
use Rattle.std.specs.List.{filter}
use Rattle.rq_model.specs.States.{Element, is_free}
use Rattle.rq_queue.proofs.Searching.{marked_counted, marked_fewer}
use Rattle.rq_queue.proofs.elements.Elements.marked_count.Goals as goal

pub count_of_marked-requires : goal.count_of_marked-requires
count_of_marked-requires c =
    let l = marked_fewer c.self.inside in
    let n = ap length c.self.view_is in
    omega (arith, l, n, c.requires)

pub returns : goal.returns
returns c = c.count_of_marked.ensures ∙ marked_counted c.self.inside c.self.invariant
    ∙ ap (λ (es : List Element). length (filter (λ (e : Element). not (is_free e.mark)) es)) c.self.view_is
