use Rattle.std.proofs.Common.{◌∙◌, ap, sym}
use Rattle.rq_model.specs.States.{State}
use Rattle.rq_model.specs.Machine.{best}
use Rattle.rq_live.proofs.Showing.{some_copied, takes_one_so}
use Rattle.rq_live.proofs.manager.Manager.dequeue_free.Goals as goal

pub returns-then-is_some-clause-took : goal.returns-then-is_some-clause-took
returns-then-is_some-clause-took g c =
    takes_one_so _ _ c.args.unit.0 c.args.queue.0 c.args.by _
    (some_copied c.first.result (sym c.is_some.ensures ∙ c.if-is_some.true))
    (λ from rs m. c.first.ensures ∙ ap (λ (s : State). best c.args.queue.0 s.elements) m.at.state)
    c.dequeue.result c.dequeue.ensures.took
