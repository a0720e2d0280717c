use Rattle.std.proofs.Common.{◌∙◌}
use Rattle.rq_behind.proofs.Advances.{tried_then}
use Rattle.rq_behind.proofs.mending.Mending.try_headers.Goals as goal

pub try_header-requires-2-clause-at : goal.try_header-requires-2-clause-at
try_header-requires-2-clause-at c = c.in_ok-try_header.ensures.off c.if-branch.false ∙ c.requires.at

pub returns : goal.returns
returns c =
    tried_then c.try_header-2.result c.args.self.now c.try_header.new.self c.try_header-2.new.self
    c.in_ok-try_header.field-0 c.if-branch.false c.in_ok-try_header.ensures c.try_header-2.ensures
