use Rattle.std.proofs.Common.{◌≡◌, ◌∙◌, ◌++◌, List, sym, ap, subst, arith}
use Rattle.std.specs.List.{AllByRecursion}
use Rattle.std.specs.Map.{values_of}
use Rattle.rq_model.specs.States.{Element}
use Rattle.rq_model.specs.Machine.{best}
use Rattle.rq_queue.specs.Kept.{Entry, items_of}
use Rattle.rq_queue.specs.Sorted.{sorted}
use Rattle.rq_queue.proofs.Doing.{no_entry, best_stands_first, emptied_by_len}
use Rattle.rq_queue.proofs.elements.Elements.first.Goals as goal

pub returns-then-len-eq0 : goal.returns-then-len-eq0
returns-then-len-eq0 c queue home =
    let es = c.self.inside.free.entries in
    let old = c.self.inside.marked.entries in
    sym (no_entry queue old c.self.invariant.of_units)
    ∙ ap (λ (x : List Entry). best queue (sorted (values_of x ++ items_of old)))
    (sym (emptied_by_len es (omega (arith, c.len.ensures.len, c.if-len-eq0.true))))
    ∙ ap (best queue) c.self.view_is

pub returns : goal.returns
returns c queue home =
    let es = c.self.inside.free.entries in
    let old = c.self.inside.marked.entries in
    sym (best_stands_first queue es c.in_ok-e.field-0-0.now c.in_ok-e.e.now old c.in_ok-e.ensures.first c.len.ensures.ordered
    c.self.invariant.keyed c.self.invariant.of_units
    (subst (AllByRecursion (λ (x : Element). x.home ≡ queue)) (sym c.self.view_is) home))
    ∙ ap (best queue) c.self.view_is
