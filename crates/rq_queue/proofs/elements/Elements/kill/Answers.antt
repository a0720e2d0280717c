use Rattle.std.proofs.Common.{◌≡◌, ℕ, Option, ap, ◌∙◌, subst, sym}
use Rattle.std.specs.BTreeMap.{BTreeMap}
use Rattle.std.specs.List.{AllByRecursion}
use Rattle.std.specs.Map.{values_of}
use Rattle.rq_model.specs.States.{Element}
use Rattle.rq_model.specs.Machine.{killed}
use Rattle.rq_queue.specs.Kept.{items_of}
use Rattle.rq_queue.specs.Listed.{contents}
use Rattle.rq_queue.specs.Priorities.{AreKnown}
use Rattle.rq_queue.proofs.Known.{kill_done, known_by, known_killed}
use Rattle.rq_queue.proofs.ByNumber.{each_front}
use Rattle.rq_queue.proofs.Sorting.{apart_front, each_sorted, each_unsorted}
use Rattle.rq_queue.proofs.elements.Elements.kill.Goals as goal

pub learn-requires-clause-known : goal.learn-requires-clause-known
learn-requires-clause-known c = known_by c.self.inside.priorities _ _
    (λ P k. each_unsorted P (contents c.self.inside) k) c.self.invariant.known

pub take_out-requires-clause-apart : goal.take_out-requires-clause-apart
take_out-requires-clause-apart c =
    apart_front (values_of c.self.inside.free.entries) (items_of c.self.inside.marked.entries) c.self.invariant.apart

pub take_out-requires-clause-known : goal.take_out-requires-clause-known
take_out-requires-clause-known c = each_front _ _ _
    (subst (λ (o : Option (BTreeMap ℕ ℕ)). AreKnown o (contents c.self.inside)) c.in-Some.is c.learn.ensures.known)

pub invariant_of-self : goal.invariant_of-self
invariant_of-self c = record {
  keyed = c.self.invariant.keyed;
  of_units = c.self.invariant.of_units;
  apart = c.self.invariant.apart;
  known = known_by c.learn.new.priorities _ _ (λ P k. each_sorted P (contents c.self.inside) k) c.learn.ensures.known;
}

pub invariant_of-self-2 : goal.invariant_of-self-2
invariant_of-self-2 c =
    let done = kill_done c.args.queue.0 c.args.id.0 c.self.inside.free.entries c.take_out.new.free.entries
    c.self.inside.marked.entries c.self.invariant.keyed c.self.invariant.of_units c.self.invariant.apart
    (subst (AllByRecursion (λ (x : Element). x.home ≡ c.args.queue.0)) (sym c.self.view_is) c.requires)
    c.take_out.ensures.others in
    record {
      keyed = c.take_out.ensures.keyed;
      of_units = c.self.invariant.of_units;
      apart = done.1;
      known = subst (AreKnown c.learn.new.priorities) (sym done.0)
          (known_killed c.learn.new.priorities c.args.queue.0 c.args.id.0 (contents c.self.inside)
          c.learn.ensures.known);
    }

pub returns-clause-done : goal.returns-clause-done
returns-clause-done c =
    (kill_done c.args.queue.0 c.args.id.0 c.self.inside.free.entries c.take_out.new.free.entries
    c.self.inside.marked.entries c.self.invariant.keyed c.self.invariant.of_units c.self.invariant.apart
    (subst (AllByRecursion (λ (x : Element). x.home ≡ c.args.queue.0)) (sym c.self.view_is) c.requires)
    c.take_out.ensures.others).0
    ∙ ap (killed c.args.queue.0 c.args.id.0) c.self.view_is
