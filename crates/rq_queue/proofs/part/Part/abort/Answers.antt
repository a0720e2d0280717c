use Rattle.std.proofs.Common.{ap, ◌∙◌, ◌++◌}
use Rattle.rq_model.specs.Queues.{Part}
use Rattle.rq_model.specs.Records.{Abort}
use Rattle.rq_model.specs.Redo.{sent}
use Rattle.rq_queue.proofs.part.Part.abort.Goals as goal

pub returns-clause-sent : goal.returns-clause-sent
returns-clause-sent c = c.in_ok-abort.ensures.sent
    ∙ ap (λ (p : Part). c.args.sent.now.items ++ sent c.args.place (Abort c.args.unit.0) p) c.self.view_is
