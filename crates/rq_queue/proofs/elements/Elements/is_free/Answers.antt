use Rattle.std.proofs.Common.{◌≡◌, ◌∙◌, ◌==◌, ◌&&◌, sym, ap, subst}
use Rattle.std.specs.List.{AllByRecursion, list_any}
use Rattle.std.specs.Map.{values_of}
use Rattle.rq_model.specs.Machine.{is_free_at}
use Rattle.rq_model.specs.States.{Element}
use Rattle.rq_queue.specs.Kept.{items_of}
use Rattle.rq_queue.specs.Listed.{contents}
use Rattle.rq_queue.proofs.ByNumber.{each_front}
use Rattle.rq_queue.proofs.Known.{known_by}
use Rattle.rq_queue.proofs.Searching.{free_has}
use Rattle.rq_queue.proofs.Sorting.{each_unsorted}
use Rattle.rq_queue.proofs.elements.Elements.is_free.Goals as goal

pub is_among-requires-clause-known : goal.is_among-requires-clause-known
is_among-requires-clause-known c =
    known_by c.self.inside.priorities _ _
    (λ P k. each_front P (values_of c.self.inside.free.entries) (items_of c.self.inside.marked.entries)
    (each_unsorted P (contents c.self.inside) k)) c.self.invariant.known

pub returns : goal.returns
returns c =
    c.is_among.ensures
    ∙ free_has c.args.queue.0 c.args.id.0 c.self.inside.free.entries c.self.inside.marked.entries c.self.invariant.keyed
    c.self.invariant.of_units
    (subst (AllByRecursion (λ (e : Element). e.home ≡ c.args.queue.0)) (sym c.self.view_is) c.requires)
    ∙ ap (list_any (λ (e : Element). is_free_at c.args.queue.0 e && (e.id == c.args.id.0))) c.self.view_is
