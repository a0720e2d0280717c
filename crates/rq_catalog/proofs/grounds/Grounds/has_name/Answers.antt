use Rattle.std.proofs.Common.{◌∙◌}
use Rattle.rq_catalog.proofs.grounds.Grounds.has_name.Goals as goal

pub returns : goal.returns
returns c = λ s knows. c.contains.ensures ∙ knows.names c.args.name.now
