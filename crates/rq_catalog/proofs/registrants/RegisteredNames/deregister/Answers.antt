use Rattle.std.proofs.Common.{arith}
use Rattle.rq_catalog.proofs.Knowing.{changed, beyond}
use Rattle.rq_catalog.proofs.registrants.RegisteredNames.deregister.Goals as goal

pub returns-then-queue-len : goal.returns-then-queue-len
returns-then-queue-len c =
    changed c.args.self.now.by_queue.items _ _ _ _ _ _ (omega (arith, c.if-queue-len.true, c.len.ensures))
    c.index_mut.ensures.value c.remove.ensures.updates.0

pub returns-else-queue-len : goal.returns-else-queue-len
returns-else-queue-len c = beyond _ _ _ (λ here. omega (arith, here, c.if-queue-len.false, c.len.ensures))
