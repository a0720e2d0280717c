use Rattle.rq_exchange.proofs.Words.{AreColumns}
use Rattle.rq_exchange.proofs.columns.columns.Given as goal

abbrev pub invariant-loop-row : goal.invariant-loop-row
invariant-loop-row g l = AreColumns l.yielded l.count l.columns.items
