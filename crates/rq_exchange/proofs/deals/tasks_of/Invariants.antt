use Rattle.rq_exchange.proofs.Words.{AreBare}
use Rattle.rq_exchange.proofs.deals.tasks_of.Given as goal

abbrev pub invariant-loop-queue : goal.invariant-loop-queue
invariant-loop-queue l = AreBare l.sources l.queue l.tasks.items
