use Rattle.std.proofs.Common.{◌+◌, ◌<◌, ◌^◌, ◌∙◌, ◌++◌, [], refl, sym, ap, subst, List, filter}
use Rattle.std.specs.List.{AllByRecursion}
use Rattle.rq_model.specs.States.{Element}
use Rattle.rq_model.specs.Machine.{leaves}
use Rattle.rq_model.specs.WellFormed.{Ordered}
use Rattle.rq_queue.specs.Kept.{Entry, Frees, staying, sent_from}
use Rattle.rq_queue.specs.Sorted.{sorted}
use Rattle.rq_queue.proofs.Sorting.{each_unsorted}
use Rattle.rq_queue.specs.Listed.{elements_inside}
use Rattle.rq_queue.specs.Priorities.{AreKnown}
use Rattle.rq_queue.proofs.Known.{emptied, known_staying}
use Rattle.rq_queue.proofs.Ending.{aborted, departed, each_listed, chosen_rise}
use Rattle.rq_queue.proofs.elements.Elements.abort.Goals as goal

pub all_returned-requires-clause-room : goal.all_returned-requires-clause-room
all_returned-requires-clause-room c =
    each_listed c.self.inside.free.entries c.self.inside.marked.entries
    c.taken-list.new.marked.entries c.taken-list.result.items c.taken-list.ensures.among c.self.invariant.apart
    (λ (e : Element). e.attempts + 1 < 2 ^ 64)
    (each_unsorted _ _ (subst (AllByRecursion (λ (e : Element). e.attempts + 1 < 2 ^ 64))
    (sym c.self.view_is) c.requires))

pub order-requires : goal.order-requires
order-requires c = subst (λ (xs : List Element). Ordered (λ (e f : Element). e.id < f.id) (sorted xs))
    (sym c.in_ok-leaving.ensures.leaving)
    (chosen_rise c.self.inside.free.entries c.self.inside.marked.entries
    c.taken-list.new.marked.entries c.taken-list.result.items c.taken-list.ensures.among
    c.self.invariant.apart (leaves c.args.home.now c.args.unit.0))

pub invariant_of-self : goal.invariant_of-self
invariant_of-self c = emptied c.self.inside _ c.taken-list.result.items
    (ap (λ m. m.entries) c.replace-free.ensures.after ∙ c.new.ensures.empty) refl
    c.taken-list.ensures.among c.taken-list.ensures.of_units c.self.invariant

pub invariant_of-self-in_err-send : goal.invariant_of-self-in_err-send
invariant_of-self-in_err-send c = emptied c.self.inside _ c.taken-list.result.items
    (ap (λ m. m.entries) c.replace-free.ensures.after ∙ c.new.ensures.empty) refl
    c.taken-list.ensures.among c.taken-list.ensures.of_units c.self.invariant

pub invariant_of-self-2 : goal.invariant_of-self-2
invariant_of-self-2 c =
    let freed = subst (λ (es : List Entry). (others : List Element) → Frees others es
    (staying c.args.home.now c.args.unit.0 c.taken-list.result.items) c.all_returned.new.free.entries [])
    (ap (λ m. m.entries) c.replace-free.ensures.value) c.in_ok-leaving.ensures.freed in
    let done = aborted c.args.home.now c.args.unit.0 c.self.inside.free.entries
    c.all_returned.new.free.entries c.self.inside.marked.entries c.taken-list.new.marked.entries
    c.taken-list.result.items
    c.self.invariant.keyed c.taken-list.ensures.among c.taken-list.ensures.absent c.taken-list.ensures.of_units
    c.self.invariant.apart freed in
    record {
      keyed = done.0.0;
      of_units = c.taken-list.ensures.of_units;
      apart = done.0.1;
      known = subst (AreKnown c.self.inside.priorities) (sym done.1)
          (known_staying c.self.inside.priorities c.args.home.now c.args.unit.0
          (elements_inside c.self.inside) c.self.invariant.known);
    }

pub returns-clause-kept : goal.returns-clause-kept
returns-clause-kept c =
    let freed = subst (λ (es : List Entry). (others : List Element) → Frees others es
    (staying c.args.home.now c.args.unit.0 c.taken-list.result.items) c.all_returned.new.free.entries [])
    (ap (λ m. m.entries) c.replace-free.ensures.value) c.in_ok-leaving.ensures.freed in
    (aborted c.args.home.now c.args.unit.0 c.self.inside.free.entries
    c.all_returned.new.free.entries c.self.inside.marked.entries c.taken-list.new.marked.entries
    c.taken-list.result.items
    c.self.invariant.keyed c.taken-list.ensures.among c.taken-list.ensures.absent c.taken-list.ensures.of_units
    c.self.invariant.apart freed).1
    ∙ ap (staying c.args.home.now c.args.unit.0) c.self.view_is

pub returns-clause-sent : goal.returns-clause-sent
returns-clause-sent c =
    let gone = departed c.args.home.now c.args.unit.0 c.self.inside.free.entries
    c.self.inside.marked.entries c.taken-list.new.marked.entries c.taken-list.result.items
    c.self.invariant.keyed c.taken-list.ensures.among c.taken-list.ensures.absent c.taken-list.ensures.of_units
    c.self.invariant.apart in
    c.in_ok-send.ensures.sent
    ∙ ap (λ (xs : List Element). c.args.sent.now.items ++ sent_from c.args.place c.args.home.now xs)
    (c.order.ensures
    ∙ (ap sorted c.in_ok-leaving.ensures.leaving
    ∙ (sym gone ∙ ap (filter (leaves c.args.home.now c.args.unit.0)) c.self.view_is)))
