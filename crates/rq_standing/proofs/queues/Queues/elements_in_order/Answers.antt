use Rattle.std.proofs.Common.{◌≡◌, ◌<◌, ◌∙◌, sym, subst, List, IsPermutation}
use Rattle.std.specs.List.{flat_map}
use Rattle.rq_model.specs.Queues.{Part}
use Rattle.rq_model.specs.States.{State, Element, id_before}
use Rattle.rq_model.specs.WellFormed.{Ordered}
use Rattle.rq_state.specs.Orders.{put_in_order}
use Rattle.rq_standing.specs.Stands.{HoldsState}
use Rattle.rq_standing.proofs.Together.{elements_in_order}
use Rattle.rq_standing.proofs.queues.Queues.elements_in_order.Goals as goal
use Rattle.rq_standing.proofs.queues.Queues.elements_in_order.Goals.{In_ok-elements}

all_are : (c : In_ok-elements) (t : State) → HoldsState c.args.self.now t
    → put_in_order id_before c.in_ok-elements.elements.items ≡ t.elements
all_are c t holds = elements_in_order c.parts_make_the_state.ensures c.any_order_makes_the_state.ensures t
    c.args.self.now.parts.items c.in_ok-elements.elements.items holds.well holds.parts holds.size
    (subst (λ (ps : List Part). IsPermutation (flat_map (λ (p : Part). p.elements) ps) c.in_ok-elements.elements.items)
    c.deref.ensures.value c.in_ok-elements.ensures.lent)

pub order-requires : goal.order-requires
order-requires c =
    let d = (goal.at.order-requires c).In_ok-elements in
    subst (λ (es : List Element). Ordered (λ (e f : Element). e.id < f.id) es)
    (sym (all_are d c.requires.0 c.requires.1)) c.requires.1.well.elements_rise

pub returns-clause-lent : goal.returns-clause-lent
returns-clause-lent c = λ t holds.
    let d = (goal.at.returns-clause-lent c).In_ok-elements in
    c.order.ensures ∙ all_are d t holds
