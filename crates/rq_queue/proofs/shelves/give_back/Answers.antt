use Rattle.std.proofs.Common.{List, not, ap, sym, ◌∙◌, subst}
use Rattle.std.proofs.lemmas.Bool.{and_right}
use Rattle.rq_model.specs.Machine.{leaves}
use Rattle.rq_model.specs.States.{Element, is_fresh}
use Rattle.rq_queue.specs.Kept.{Frees, staying}
use Rattle.rq_queue.proofs.Doing.{freed_step, staying_more, staying_less, fresh_dropped, one_passes, none_passes}
use Rattle.rq_queue.proofs.shelves.give_back.Goals as goal

pub returns-then-leaves-clause-freed : goal.returns-then-leaves-clause-freed
returns-then-leaves-clause-freed c = λ rest others all start h.
    let e = c.args.e in
    let home = c.args.home.now in
    let unit = c.args.unit.0 in
    subst (λ (xs : List Element). Frees others start all c.args.free.now.entries xs)
    (staying_less home unit e rest
    (and_right (not (is_fresh unit e.mark)) _ (ap not (sym c.leaves.ensures ∙ c.if-leaves.true)))) h

pub returns-then-leaves-clause-leaving : goal.returns-then-leaves-clause-leaving
returns-then-leaves-clause-leaving c = c.in_ok-push.ensures.items
    ∙ one_passes (leaves c.args.home.now c.args.unit.0) c.args.e c.args.leaving.now.items
    (sym c.leaves.ensures ∙ c.if-leaves.true)

pub returns-then-is_fresh-clause-freed : goal.returns-then-is_fresh-clause-freed
returns-then-is_fresh-clause-freed c = λ rest others all start h.
    fresh_dropped c.args.home.now c.args.unit.0 c.args.e rest others all start c.args.free.now.entries
    (sym c.is_fresh.ensures ∙ c.if-is_fresh.true) h

pub returns-then-is_fresh-clause-leaving : goal.returns-then-is_fresh-clause-leaving
returns-then-is_fresh-clause-leaving c =
    none_passes (leaves c.args.home.now c.args.unit.0) c.args.e c.args.leaving.now.items
    (sym c.leaves.ensures ∙ c.if-leaves.false)

pub returns-clause-freed : goal.returns-clause-freed
returns-clause-freed c = λ rest others all start h.
    let e = c.args.e in
    let home = c.args.home.now in
    let unit = c.args.unit.0 in
    freed_step c.returned.result (staying home unit rest) others start
    c.args.free.now.entries c.freed.new.free.entries all c.in_ok-freed.ensures.among c.in_ok-freed.ensures.keyed
    (subst (λ (xs : List Element). Frees others start all c.args.free.now.entries xs)
    (staying_more home unit e c.returned.result rest c.returned.ensures
    (sym c.is_fresh.ensures ∙ c.if-is_fresh.false) (sym c.leaves.ensures ∙ c.if-leaves.false)) h)

pub returns-clause-leaving : goal.returns-clause-leaving
returns-clause-leaving c = none_passes (leaves c.args.home.now c.args.unit.0) c.args.e c.args.leaving.now.items
    (sym c.leaves.ensures ∙ c.if-leaves.false)
