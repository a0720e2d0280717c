use Rattle.std.proofs.Common.{◌∙◌, ap, List, length}
use Rattle.std.specs.List.{filter}
use Rattle.rq_model.specs.States.{Element, is_free}
use Rattle.rq_queue.proofs.Searching.{free_counted}
use Rattle.rq_queue.proofs.elements.Elements.free_count.Goals as goal

pub returns : goal.returns
returns c = c.len.ensures.len ∙ free_counted c.self.inside c.self.invariant
    ∙ ap (λ (es : List Element). length (filter (λ (e : Element). is_free e.mark) es)) c.self.view_is
