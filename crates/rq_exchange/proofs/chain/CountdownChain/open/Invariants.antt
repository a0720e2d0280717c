use Rattle.rq_exchange.proofs.Words.{AreOpened}
use Rattle.rq_exchange.proofs.chain.CountdownChain.open.Given as goal

abbrev pub invariant-loop-queue : goal.invariant-loop-queue
invariant-loop-queue l = AreOpened l.job l.workers l.queue l.slots.items l.countdowns.items l.all.items
