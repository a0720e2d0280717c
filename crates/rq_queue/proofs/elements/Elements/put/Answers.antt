use Rattle.std.proofs.Common.{◌≢◌, ◌∷◌, ◌∙◌, List, sym, ap, subst}
use Rattle.std.specs.List.{AllByRecursion}
use Rattle.rq_model.specs.States.{Element, put, id_before}
use Rattle.rq_queue.specs.Listed.{contents, elements_inside}
use Rattle.rq_queue.specs.Priorities.{AreKnown}
use Rattle.rq_queue.specs.Sorted.{sorted}
use Rattle.rq_model.proofs.Apart.{Apart}
use Rattle.rq_queue.proofs.Known.{known_by}
use Rattle.rq_queue.proofs.Sorting.{each_put, each_sorted}
use Rattle.rq_queue.proofs.Doing.{others_of}
use Rattle.rq_queue.proofs.elements.Elements.put.Goals as goal

pub shelve-requires-clause-apart : goal.shelve-requires-clause-apart
shelve-requires-clause-apart c = (
  others_of c.args.e (contents c.self.inside)
      (subst (AllByRecursion (λ (x : Element). x.id ≢ c.args.e.id)) (sym c.self.view_is) c.requires),
  c.self.invariant.apart,
)

pub invariant_of-self : goal.invariant_of-self
invariant_of-self c = record {
  keyed = c.self.invariant.keyed;
  of_units = c.self.invariant.of_units;
  apart = c.self.invariant.apart;
  known = c.in_err-kept_with.ensures.same (elements_inside c.self.inside) c.self.invariant.known;
}

pub invariant_of-self-in_err-shelve : goal.invariant_of-self-in_err-shelve
invariant_of-self-in_err-shelve c =
    let e = c.args.e in
    let priorities = c.kept_with.new.priorities in
    let others = others_of e (contents c.self.inside)
    (subst (AllByRecursion (λ (x : Element). x.id ≢ e.id)) (sym c.self.view_is) c.requires) in
    record {
      keyed = c.shelve.ensures.keyed;
      of_units = c.shelve.ensures.of_units;
      apart = subst Apart (sym c.in_err-shelve.ensures.same) c.self.invariant.apart;
      known = subst (λ (xs : List Element). AreKnown priorities (sorted xs)) (sym c.in_err-shelve.ensures.same)
          (known_by priorities (e ∷ elements_inside c.self.inside) _ (λ P k. k.1)
          (c.in_ok-kept_with.ensures.known (elements_inside c.self.inside)
          (each_sorted (λ (x : Element). e.id ≢ x.id) (contents c.self.inside) others) c.self.invariant.known));
    }

pub invariant_of-self-2 : goal.invariant_of-self-2
invariant_of-self-2 c =
    let e = c.args.e in
    let priorities = c.kept_with.new.priorities in
    let others = others_of e (contents c.self.inside)
    (subst (AllByRecursion (λ (x : Element). x.id ≢ e.id)) (sym c.self.view_is) c.requires) in
    record {
      keyed = c.in_ok-shelve.ensures.keyed;
      of_units = c.in_ok-shelve.ensures.of_units;
      apart = c.in_ok-shelve.ensures.apart;
      known = subst (AreKnown priorities) (sym c.in_ok-shelve.ensures.put)
          (known_by priorities _ _ (λ P k. each_put P e (elements_inside c.self.inside) k.0 k.1)
          (c.in_ok-kept_with.ensures.known (elements_inside c.self.inside)
          (each_sorted (λ (x : Element). e.id ≢ x.id) (contents c.self.inside) others) c.self.invariant.known));
    }

pub returns-clause-done : goal.returns-clause-done
returns-clause-done c = c.in_ok-shelve.ensures.put ∙ ap (put id_before c.args.e) c.self.view_is
