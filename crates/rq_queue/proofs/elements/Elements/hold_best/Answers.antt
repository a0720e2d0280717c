use Rattle.std.proofs.Common.{◌≡◌, ◌∙◌, ◌∷◌, ◌++◌, sym, ap, subst, List, option_map, Some}
use Rattle.std.specs.List.{AllByRecursion}
use Rattle.std.proofs.lemmas.List.Elements.{recursion_from_All}
use Rattle.rq_model.specs.States.{Element}
use Rattle.rq_model.specs.Machine.{best, best_held}
use Rattle.rq_queue.specs.Kept.{Entry, IsKeyed, Stowed, items_of}
use Rattle.rq_queue.specs.Sorted.{sorted}
use Rattle.rq_model.proofs.Apart.{Apart}
use Rattle.std.specs.Map.{values_of}
use Rattle.rq_queue.specs.Listed.{elements_inside}
use Rattle.rq_queue.specs.Priorities.{AreKnown}
use Rattle.rq_queue.proofs.Known.{known_by, known_held}
use Rattle.rq_queue.proofs.Sorting.{each_sorted, each_unsorted}
use Rattle.rq_queue.proofs.Doing.{held, none_there, none_best, best_first}
use Rattle.rq_queue.proofs.elements.Elements.hold_best.Goals as goal

pub invariant_of-self : goal.invariant_of-self
invariant_of-self c =
    let items = items_of c.self.inside.marked.entries in
    let same = sym c.in_default.ensures.unchanged in
    record {
      keyed = subst (AllByRecursion IsKeyed) same c.self.invariant.keyed;
      of_units = c.self.invariant.of_units;
      apart = subst (λ (es : List Entry). Apart (values_of es ++ items)) same c.self.invariant.apart;
      known = subst (λ (es : List Entry). AreKnown c.self.inside.priorities (sorted (values_of es ++ items))) same
          c.self.invariant.known;
    }

pub invariant_of-self-in_err-stow : goal.invariant_of-self-in_err-stow
invariant_of-self-in_err-stow c =
    let rest = values_of c.pop_first.new.self.entries in
    let items = items_of c.self.inside.marked.entries in
    let priorities = c.self.inside.priorities in
    let taken = c.in-Some.ensures.removal in
    record {
      keyed = (subst (AllByRecursion IsKeyed) taken c.self.invariant.keyed).1;
      of_units = c.stow.ensures.of_units;
      apart = subst (λ (xs : List Element). Apart (rest ++ xs)) (sym c.in_err-stow.ensures.same)
          (subst (λ (es : List Entry). Apart (values_of es ++ items)) taken c.self.invariant.apart).1;
      known = subst (λ (xs : List Element). AreKnown priorities (sorted (rest ++ xs))) (sym c.in_err-stow.ensures.same)
          (known_by priorities _ _
          (λ P k. each_sorted P (rest ++ items) (each_unsorted P (c.in-Some.e ∷ (rest ++ items)) k).1)
          (subst (λ (es : List Entry). AreKnown priorities (sorted (values_of es ++ items))) taken
          c.self.invariant.known));
    }

pub invariant_of-self-2 : goal.invariant_of-self-2
invariant_of-self-2 c =
    let done = held c.args.unit.0 c.args.queue.0
    (c.in-Some.field-0-0, c.in-Some.e) c.self.inside.free.entries c.pop_first.new.self.entries
    c.self.inside.marked.entries c.stow.new.marked.entries c.in-Some.ensures.removal
    (subst (λ (x : Element). Stowed x c.self.inside.marked.entries c.stow.new.marked.entries)
    c.set_mark.ensures c.in_ok-stow.ensures.stowed) c.self.invariant.keyed c.self.invariant.of_units
    (recursion_from_All _ _ c.in-Some.ensures.all_above) c.self.invariant.apart
    (subst (AllByRecursion (λ (x : Element). x.home ≡ c.args.queue.0)) (sym c.self.view_is) c.requires) in
    record {
      keyed = done.1.1;
      of_units = c.in_ok-stow.ensures.of_units;
      apart = done.1.0;
      known = subst (AreKnown c.self.inside.priorities) (sym done.0)
          (known_held c.self.inside.priorities c.args.unit.0 c.args.queue.0
          (elements_inside c.self.inside) c.self.invariant.known);
    }

pub returns-in_default-clause-held : goal.returns-in_default-clause-held
returns-in_default-clause-held c =
    none_there c.args.unit.0 c.args.queue.0 c.self.inside.free.entries c.pop_first.new.self.entries
    c.self.inside.marked.entries c.in_default.ensures.variant.1 c.in_default.ensures.unchanged c.self.invariant.of_units
    ∙ ap (best_held c.args.unit.0 c.args.queue.0) c.self.view_is

pub returns-clause-held : goal.returns-clause-held
returns-clause-held c =
    (held c.args.unit.0 c.args.queue.0
    (c.in-Some.field-0-0, c.in-Some.e) c.self.inside.free.entries c.pop_first.new.self.entries
    c.self.inside.marked.entries c.stow.new.marked.entries c.in-Some.ensures.removal
    (subst (λ (x : Element). Stowed x c.self.inside.marked.entries c.stow.new.marked.entries)
    c.set_mark.ensures c.in_ok-stow.ensures.stowed) c.self.invariant.keyed c.self.invariant.of_units
    (recursion_from_All _ _ c.in-Some.ensures.all_above) c.self.invariant.apart
    (subst (AllByRecursion (λ (x : Element). x.home ≡ c.args.queue.0)) (sym c.self.view_is) c.requires)).0
    ∙ ap (best_held c.args.unit.0 c.args.queue.0) c.self.view_is

pub returns-in_default-clause-best : goal.returns-in_default-clause-best
returns-in_default-clause-best c =
    sym (none_best c.args.queue.0 c.self.inside.free.entries c.self.inside.marked.entries c.in_default.ensures.variant.1
    c.self.invariant.of_units) ∙ ap (λ (es : List Element). option_map (λ (e : Element). e.id) (best c.args.queue.0 es))
    c.self.view_is

pub returns-clause-best : goal.returns-clause-best
returns-clause-best c =
    ap (λ n. Some n) c.id-id.ensures
    ∙ (sym (best_first c.args.queue.0 (c.in-Some.field-0-0, c.in-Some.e) c.self.inside.free.entries
    c.pop_first.new.self.entries c.self.inside.marked.entries c.in-Some.ensures.removal c.self.invariant.keyed
    c.self.invariant.of_units
    (recursion_from_All _ _ c.in-Some.ensures.all_above)
    (subst (AllByRecursion (λ (x : Element). x.home ≡ c.args.queue.0)) (sym c.self.view_is) c.requires))
    ∙ ap (λ (es : List Element). option_map (λ (e : Element). e.id) (best c.args.queue.0 es)) c.self.view_is)
