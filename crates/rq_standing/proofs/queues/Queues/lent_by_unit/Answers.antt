use Rattle.std.proofs.Common.{◌≡◌, ◌<◌, ◌==◌, ◌∙◌, ℕ, List, ap, subst, sym}
use Rattle.std.specs.List.{filter, list_any}
use Rattle.std.specs.List.Sorted.{IsPermutation}
use Rattle.rq_model.specs.Queues.{is_marked}
use Rattle.rq_model.specs.States.{State, Element}
use Rattle.rq_model.specs.WellFormed.{Ordered}
use Rattle.rq_model.proofs.Merged.{ordered_filter}
use Rattle.rq_queue.specs.Sorted.{sorted}
use Rattle.rq_queue.proofs.ByNumber.{rising_is}
use Rattle.rq_standing.specs.Ends.{marked_where}
use Rattle.rq_standing.specs.Stands.{HoldsState}
use Rattle.rq_standing.specs.Units.{queues_of}
use Rattle.rq_standing.proofs.Ending.{all_named}
use Rattle.rq_standing.proofs.queues.Queues.lent_by_unit.Goals as goal
use Rattle.rq_standing.proofs.queues.Queues.lent_by_unit.Goals.{In_ok-lent}

abbrev marked_of : (c : In_ok-lent) → State → List Element
marked_of c s = filter (λ (e : Element). is_marked c.args.unit.0 e.mark) s.elements

rising : (c : In_ok-lent) (s : State) → HoldsState c.args.self.now s → Ordered (λ (e f : Element). e.id < f.id) (marked_of c s)
rising c s holds = ordered_filter (λ (e f : Element). e.id < f.id) (λ (e : Element). is_marked c.args.unit.0 e.mark) s.elements
    holds.well.elements_rise

all_are : (c : In_ok-lent) (s : State) → HoldsState c.args.self.now s → sorted c.in_ok-lent.lent.items ≡ marked_of c s
all_are c s holds = rising_is (λ (e : Element). e.id) (marked_of c s) c.in_ok-lent.lent.items (rising c s holds)
    (subst (λ (es : List Element). IsPermutation es c.in_ok-lent.lent.items)
    (ap (λ (qs : List ℕ). marked_where c.args.unit.0 (λ k. list_any (λ v. v == k) qs) s.elements) c.queues_named.ensures
    ∙ all_named c.args.self.now s c.args.unit.0 holds)
    (c.in_ok-lent.ensures.lent s holds))

pub order-requires : goal.order-requires
order-requires c =
    let d = (goal.at.order-requires c).In_ok-lent in
    subst (λ (es : List Element). Ordered (λ (e f : Element). e.id < f.id) es) (sym (all_are d c.requires.0 c.requires.1))
    (rising d c.requires.0 c.requires.1)

pub returns-clause-lent : goal.returns-clause-lent
returns-clause-lent c = λ s holds. c.order.ensures ∙ all_are (goal.at.returns-clause-lent c).In_ok-lent s holds
