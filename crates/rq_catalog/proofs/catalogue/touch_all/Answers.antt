use Rattle.rq_catalog.proofs.Tables.{next_queue}
use Rattle.std.proofs.Common.{arith, ◌∙◌}
use Rattle.rq_catalog.proofs.catalogue.touch_all.Goals as goal

pub loop-queue-preserved : goal.loop-queue-preserved
loop-queue-preserved c = (
  c.in_ok-touch_once.ensures.len ∙ c.loop-queue.invariant.0,
  λ q. next_queue _ _ _ _ _ _ 0 q _ (omega (arith, c.loop-queue-test.true)) (c.requires q)
      (c.loop-queue.invariant.1 q) (rw (← c.loop-queue.invariant.0) (c.in_ok-touch_once.ensures.listed q)),
)
