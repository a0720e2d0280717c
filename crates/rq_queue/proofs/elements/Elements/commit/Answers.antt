use Rattle.std.proofs.Common.{◌∙◌, [], List, ap, refl, subst, sym}
use Rattle.rq_model.specs.Machine.{committed_elements}
use Rattle.rq_model.specs.States.{Element}
use Rattle.rq_queue.specs.Kept.{Entry, Frees, unheld}
use Rattle.rq_queue.specs.Listed.{elements_inside}
use Rattle.rq_queue.specs.Priorities.{AreKnown}
use Rattle.rq_queue.proofs.Known.{emptied, known_committed}
use Rattle.rq_queue.proofs.Ending.{committed}
use Rattle.rq_queue.proofs.elements.Elements.commit.Goals as goal

pub invariant_of-self : goal.invariant_of-self
invariant_of-self c = emptied c.self.inside _ c.taken-list.result.items
    (ap (λ m. m.entries) c.replace-free.ensures.after ∙ c.new.ensures.empty) refl
    c.taken-list.ensures.among c.taken-list.ensures.of_units c.self.invariant

pub invariant_of-self-2 : goal.invariant_of-self-2
invariant_of-self-2 c =
    let freed = subst (λ (es : List Entry). (others : List Element) → Frees others es
    (unheld c.args.unit.0 c.taken-list.result.items) c.all_freed.new.free.entries [])
    (ap (λ m. m.entries) c.replace-free.ensures.value) c.in_ok-all_freed.ensures.freed in
    let done = committed c.args.unit.0 c.self.inside.free.entries c.all_freed.new.free.entries
    c.self.inside.marked.entries c.taken-list.new.marked.entries c.taken-list.result.items
    c.self.invariant.keyed c.taken-list.ensures.among c.taken-list.ensures.absent c.taken-list.ensures.of_units
    c.taken-list.ensures.of_unit c.self.invariant.apart freed in
    record {
      keyed = done.0.0;
      of_units = c.taken-list.ensures.of_units;
      apart = done.0.1;
      known = subst (AreKnown c.self.inside.priorities) (sym done.1)
          (known_committed c.self.inside.priorities c.args.unit.0
          (elements_inside c.self.inside) c.self.invariant.known);
    }

pub returns-clause-done : goal.returns-clause-done
returns-clause-done c =
    let freed = subst (λ (es : List Entry). (others : List Element) → Frees others es
    (unheld c.args.unit.0 c.taken-list.result.items) c.all_freed.new.free.entries [])
    (ap (λ m. m.entries) c.replace-free.ensures.value) c.in_ok-all_freed.ensures.freed in
    (committed c.args.unit.0 c.self.inside.free.entries c.all_freed.new.free.entries
    c.self.inside.marked.entries c.taken-list.new.marked.entries c.taken-list.result.items
    c.self.invariant.keyed c.taken-list.ensures.among c.taken-list.ensures.absent c.taken-list.ensures.of_units
    c.taken-list.ensures.of_unit c.self.invariant.apart freed).1
    ∙ ap (committed_elements c.args.unit.0) c.self.view_is
