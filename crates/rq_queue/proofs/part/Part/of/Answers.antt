use Rattle.std.proofs.Common.{◌<◌, ◌==◌, sym, subst}
use Rattle.rq_model.specs.States.{Element, Note}
use Rattle.rq_model.specs.WellFormed.{Ordered}
use Rattle.rq_model.proofs.Merged.{ordered_filter}
use Rattle.rq_queue.proofs.part.Part.of.Goals as goal

pub of-requires : goal.of-requires
of-requires c = subst (Ordered (λ (e f : Element). e.id < f.id)) (sym c.in_ok-elements.ensures.elements)
    (ordered_filter (λ (e f : Element). e.id < f.id)
    (λ e. e.home == c.args.queue.0) c.args.state.now.elements c.is_well_formed.ensures.elements_rise)

pub of-requires-3 : goal.of-requires-3
of-requires-3 c = subst (Ordered (λ (n m : Note). n.last.place < m.last.place)) (sym c.in_ok-notes.ensures.notes)
    (ordered_filter (λ (n m : Note). n.last.place < m.last.place)
    (λ n. n.queue == c.args.queue.0) c.args.state.now.notes c.is_well_formed.ensures.notes_rise)
