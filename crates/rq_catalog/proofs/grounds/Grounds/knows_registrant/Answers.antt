use Rattle.std.proofs.Common.{◌∙◌}
use Rattle.rq_catalog.proofs.grounds.Grounds.knows_registrant.Goals as goal

pub returns : goal.returns
returns c = λ s knows. c.has.ensures ∙ knows.registrants (c.args.queue.0, c.args.name.now)
