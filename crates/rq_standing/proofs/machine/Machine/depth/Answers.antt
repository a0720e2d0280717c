use Rattle.std.proofs.Common.{◌≡◌, ◌∙◌, length, ap}
use Rattle.std.specs.Prelude.{filter}
use Rattle.rq_model.specs.Queues.{Part}
use Rattle.rq_model.specs.States.{Element, is_free}
use Rattle.rq_standing.proofs.Looks.{free_here}
use Rattle.rq_standing.proofs.machine.Machine.depth.Goals as goal

pub returns : goal.returns
returns c =
    c.free_count.ensures
    ∙ ap (λ (p : Part). length (filter (λ (e : Element). is_free e.mark) p.elements)) c.part.ensures
    ∙ ap length (free_here c.args.queue.0 c.args.self.now.elements)
