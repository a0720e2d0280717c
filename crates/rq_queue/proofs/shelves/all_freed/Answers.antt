use Rattle.std.proofs.Common.{List, reverse, sym, ◌∙◌, subst}
use Rattle.rq_model.specs.States.{Element}
use Rattle.rq_queue.specs.Kept.{Frees, unheld}
use Rattle.rq_queue.proofs.Doing.{popped, freed_step, unheld_more, held_dropped}
use Rattle.rq_queue.proofs.shelves.all_freed.Goals as goal

pub loop-e-preserved-then-is_held : goal.loop-e-preserved-then-is_held
loop-e-preserved-then-is_held c = λ others.
    let left = c.next_of.new.list.items in
    let all = unheld c.args.unit.0 c.args.list.items in
    held_dropped c.args.unit.0 c.in-Some.e (reverse left) others all c.args.free.now.entries c.loop-e.free.entries
    (sym c.is_held.ensures ∙ c.if-is_held.true)
    (subst (λ (xs : List Element). Frees others c.args.free.now.entries all c.loop-e.free.entries
    (unheld c.args.unit.0 xs)) (popped c.loop-e.coming.items left c.in-Some.e c.in-Some.ensures.taken)
    (c.loop-e.invariant others))

pub loop-e-preserved : goal.loop-e-preserved
loop-e-preserved c = λ others.
    let e = c.in-Some.e in
    let left = c.next_of.new.list.items in
    let all = unheld c.args.unit.0 c.args.list.items in
    freed_step c.unmarked.result (unheld c.args.unit.0 (reverse left)) others c.args.free.now.entries
    c.loop-e.free.entries c.freed.new.free.entries all c.in_ok-freed.ensures.among c.in_ok-freed.ensures.keyed
    (subst (λ (xs : List Element). Frees others c.args.free.now.entries all c.loop-e.free.entries xs)
    (unheld_more c.args.unit.0 e c.unmarked.result (reverse left) c.unmarked.ensures
    (sym c.is_held.ensures ∙ c.if-is_held.false))
    (subst (λ (xs : List Element). Frees others c.args.free.now.entries all c.loop-e.free.entries
    (unheld c.args.unit.0 xs)) (popped c.loop-e.coming.items left e c.in-Some.ensures.taken)
    (c.loop-e.invariant others)))

pub returns-clause-freed : goal.returns-clause-freed
returns-clause-freed c = λ others.
    subst (λ (xs : List Element). Frees others c.args.free.now.entries (unheld c.args.unit.0 c.args.list.items)
    c.loop-e.free.entries (unheld c.args.unit.0 (reverse xs))) c.in_default.ensures.none (c.loop-e.invariant others)
