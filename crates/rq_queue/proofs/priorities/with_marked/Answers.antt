use Rattle.std.proofs.Common.{List, sym, ap, ◌∙◌}
use Rattle.std.specs.Map.Iter.{deref_pair}
use Rattle.std.proofs.lemmas.Map.Iter.{rest_more}
use Rattle.rq_model.specs.States.{Element}
use Rattle.rq_queue.specs.Kept.{items_of}
use Rattle.rq_queue.specs.Priorities.{with_all}
use Rattle.rq_queue.proofs.Known.{with_all_append}
use Rattle.rq_queue.proofs.Units.{Lists}
use Rattle.rq_queue.proofs.priorities.with_marked.Goals as goal

pub loop-list-preserved : goal.loop-list-preserved
loop-list-preserved c =
    let left = c.next.new.self in
    let list = c.in-Some.list.now.items in
    let by_id = c.loop-list.by_id.entries in
    ap (with_all (items_of left))
    (c.in_ok-listed.ensures.added ∙ ap (λ (xs : List Element). with_all xs by_id) c.deref.ensures.value)
    ∙ (sym (with_all_append list (items_of left) by_id)
    ∙ (ap (λ (es : Lists). with_all (items_of es) by_id)
    (sym (rest_more deref_pair c.loop-list.list-iterator left c.next.result
    (c.in-Some.field-0-0, c.in-Some.list) c.in-Some.is c.next.ensures.steps))
    ∙ c.loop-list.invariant))
