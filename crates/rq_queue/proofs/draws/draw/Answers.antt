use Rattle.std.proofs.Common.{sym, ◌∙◌, subst, List}
use Rattle.std.specs.BTreeMap.{is_at}
use Rattle.std.specs.Ordering.{nat_cmp}
use Rattle.rq_queue.specs.Noted.{Drawn, NoteEntry}
use Rattle.rq_queue.proofs.Noting.{none_drawn, one_drawn, drawn_one}
use Rattle.rq_queue.proofs.draws.draw.Goals as goal

pub returns-then-not-stands-clause-left : goal.returns-then-not-stands-clause-left
returns-then-not-stands-clause-left c =
    none_drawn c.args.whose.now c.args.place c.args.all.now.entries c.requires
    (sym c.stands.ensures ∙ c.if-not-stands.true)

pub returns-clause-left : goal.returns-clause-left
returns-clause-left c = c.remove.ensures.entries
    ∙ one_drawn c.args.whose.now c.args.place c.args.all.now.entries c.requires
    (sym c.stands.ensures ∙ c.if-not-stands.false)

pub returns-clause-drawn : goal.returns-clause-drawn
returns-clause-drawn c =
    subst (λ (new : List NoteEntry). Drawn c.args.whose.now c.remove.result c.args.all.now.entries new)
    (sym c.remove.ensures.entries)
    (drawn_one c.args.whose.now (is_at (nat_cmp c.args.place)) c.args.all.now.entries c.remove.result
    c.remove.ensures.value (sym c.stands.ensures ∙ c.if-not-stands.false))
