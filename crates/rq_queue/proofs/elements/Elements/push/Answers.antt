use Rattle.std.proofs.Common.{◌∙◌}
use Rattle.rq_queue.proofs.Doing.{put_last}
use Rattle.rq_queue.proofs.elements.Elements.push.Goals as goal

pub returns-clause-done : goal.returns-clause-done
returns-clause-done c = c.in_ok-put.ensures.done ∙ put_last c.args.e c.args.self.now c.requires
