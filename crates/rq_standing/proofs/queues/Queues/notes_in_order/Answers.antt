use Rattle.std.proofs.Common.{◌≡◌, ◌<◌, ◌∙◌, ap, sym, subst, List}
use Rattle.std.specs.List.{flat_map}
use Rattle.rq_model.specs.Queues.{Part}
use Rattle.rq_model.specs.States.{State, Note}
use Rattle.rq_model.specs.WellFormed.{Ordered}
use Rattle.rq_state.specs.Orders.{put_in_order, place_before}
use Rattle.rq_standing.specs.Stands.{HoldsState}
use Rattle.rq_standing.proofs.Together.{notes_in_order}
use Rattle.rq_standing.proofs.queues.Queues.notes_in_order.Goals as goal
use Rattle.rq_standing.proofs.queues.Queues.notes_in_order.Goals.{In_ok-notes}

all_are : (c : In_ok-notes) (t : State) → HoldsState c.args.self.now t
    → put_in_order place_before c.in_ok-notes.notes.items ≡ t.notes
all_are c t holds =
    ap (put_in_order place_before) (c.in_ok-notes.ensures.lent
    ∙ ap (flat_map (λ (p : Part). p.notes)) c.deref.ensures.value)
    ∙ notes_in_order c.parts_make_the_state.ensures t c.args.self.now.parts.items holds.well holds.parts holds.size

pub order-requires : goal.order-requires
order-requires c =
    let d = (goal.at.order-requires c).In_ok-notes in
    subst (λ (ns : List Note). Ordered (λ (n m : Note). n.last.place < m.last.place) ns)
    (sym (all_are d c.requires.0 c.requires.1)) c.requires.1.well.notes_rise

pub returns-clause-lent : goal.returns-clause-lent
returns-clause-lent c = λ t holds.
    let d = (goal.at.returns-clause-lent c).In_ok-notes in
    c.order.ensures ∙ all_are d t holds
