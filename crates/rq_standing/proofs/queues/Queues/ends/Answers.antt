use Rattle.std.proofs.Common.{◌≡◌, ◌<◌, ◌≤◌, ◌+◌, ◌^◌, ◌∙◌, ℕ, Bool, List, length, map, sym, ap, subst, arith}
use Rattle.std.specs.List.{AllByRecursion, filter}
use Rattle.rq_model.specs.Queues.{is_marked}
use Rattle.rq_model.specs.States.{State, Element}
use Rattle.rq_model.specs.WellFormed.{IsElement}
use Rattle.rq_model.proofs.Lists.{each_weaker, each_filter}
use Rattle.rq_record.specs.Views.{record_of}
use Rattle.rq_standing.specs.Ends.{fates}
use Rattle.rq_standing.specs.Stands.{HoldsState}
use Rattle.rq_standing.proofs.Ending.{none_end, fates_of_marked}
use Rattle.rq_standing.proofs.queues.Queues.ends.Goals as goal
use Rattle.rq_standing.proofs.queues.Queues.ends.Goals.{After-deref-2}

pub returns-in_default-clause-ends : goal.returns-in_default-clause-ends
returns-in_default-clause-ends c = λ s holds. ap (map (λ p. (p.0.0, p.1))) c.new.ensures.items
    ∙ sym (none_end s.definitions (record_of c.args.what.now) (sym c.in_default.ensures) s.elements)

marked_are : (c : After-deref-2) (s : State) → HoldsState c.args.self.now s
    → c.deref-2.result.now ≡ filter (λ (e : Element). is_marked c.in-Some.unit.0 e.mark) s.elements
marked_are c s holds = c.deref-2.ensures.value ∙ c.in_ok-lent.ensures.lent s holds

pub fates_of-requires-clause-homes : goal.fates_of-requires-clause-homes
fates_of-requires-clause-homes c =
    let s = c.requires.0 in
    let holds = c.requires.1 in
    subst (AllByRecursion (λ (e : Element). e.home < length c.deref.result.now)) (sym (marked_are c s holds))
    (subst (λ (n : ℕ). AllByRecursion (λ (e : Element). e.home < n)
    (filter (λ (e : Element). is_marked c.in-Some.unit.0 e.mark) s.elements))
    (sym (ap length (c.deref.ensures.value ∙ holds.definitions)))
    (each_filter (λ (e : Element). e.home < length s.definitions) (λ (e : Element). is_marked c.in-Some.unit.0 e.mark) s.elements
    (each_weaker (IsElement s) (λ (e : Element). e.home < length s.definitions) (λ e is. is.home) s.elements holds.well.elements)))

pub fates_of-requires-clause-room : goal.fates_of-requires-clause-room
fates_of-requires-clause-room c =
    let s = c.requires.0 in
    let holds = c.requires.1 in
    subst (AllByRecursion (λ (e : Element). e.attempts + 1 < 2 ^ 64)) (sym (marked_are c s holds))
    (each_filter (λ (e : Element). e.attempts + 1 < 2 ^ 64) (λ (e : Element). is_marked c.in-Some.unit.0 e.mark) s.elements
    (each_weaker (IsElement s) (λ (e : Element). e.attempts + 1 < 2 ^ 64)
    (λ e is. omega (arith, is.attempts, holds.next, c.if-self.false)) s.elements holds.well.elements))

pub returns-clause-ends : goal.returns-clause-ends
returns-clause-ends c =
    let d = (goal.at.returns-clause-ends c).After-deref-2 in
    λ s holds. c.in_ok-fates.ensures.fates
    ∙ (λ i. fates ((c.deref.ensures.value ∙ holds.definitions) i) (record_of c.args.what.now) (marked_are d s holds i))
    ∙ fates_of_marked s.definitions (record_of c.args.what.now) c.in-Some.unit.0 (sym c.in-Some.ensures) s.elements
