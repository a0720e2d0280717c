use Rattle.std.proofs.Common.{◌∙◌, ap}
use Rattle.rq_model.specs.States.{State}
use Rattle.rq_journal.proofs.Openings.{judged_of, judged_at}
use Rattle.rq_journal.proofs.growths.Growth.behind_redone.Goals as goal

pub returns-clause-whole : goal.returns-clause-whole
returns-clause-whole c = λ b h.
    let front = c.args.front.now in
    c.numbered-growth.ensures.whole b (judged_of b front c.in_ok-judge.judge h c.in_ok-judge.ensures.stands)
    (c.next.ensures.next ∙ ap (λ (s : State). s.next) h.state)

pub returns-clause-from : goal.returns-clause-from
returns-clause-from c = λ b offset h.
    let front = c.args.front.now in
    c.numbered-growth.ensures.from b offset (judged_at b offset front c.in_ok-judge.judge h c.in_ok-judge.ensures.stands)
    (c.next.ensures.next ∙ ap (λ (s : State). s.next) h.state)
