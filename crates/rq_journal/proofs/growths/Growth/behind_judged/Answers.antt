use Rattle.std.proofs.Common.{arith}
use Rattle.rq_model.specs.States.{empty}
use Rattle.rq_model.proofs.Restarts.{next_run}
use Rattle.rq_journal.proofs.growths.Growth.behind_judged.Goals as goal

pub returns-clause-whole : goal.returns-clause-whole
returns-clause-whole c b h = c.numbered.ensures.whole b h (omega (arith, h.count, next_run empty h.records))
