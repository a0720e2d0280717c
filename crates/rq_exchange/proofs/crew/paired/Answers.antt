use Rattle.std.proofs.Common.{arith}
use Rattle.rq_exchange.proofs.Words.{common_steps, elements}
use Rattle.rq_exchange.proofs.crew.paired.Goals as goal

pub loop-seat-preserved : goal.loop-seat-preserved
loop-seat-preserved c = (
  grind (arith, common_steps),
  grind (arith, common_steps),
  λ chain room seats rows.
      let all = c.loop-seat.invariant.2 chain room seats rows in
      (grind (arith, elements, all.0), grind (arith, elements, all.1), grind (arith, elements, all)),
)

pub returns-clause-workers : goal.returns-clause-workers
returns-clause-workers c = λ chain room seats rows. (c.loop-seat.invariant.2 chain room seats rows).2
