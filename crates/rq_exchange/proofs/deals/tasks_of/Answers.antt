use Rattle.std.proofs.Common.{arith}
use Rattle.rq_exchange.proofs.Words.{nil_from_length}
use Rattle.rq_state.proofs.Listings.{listed_at}
use Rattle.rq_exchange.proofs.Sources.{bare_stays, bare_more}
use Rattle.rq_exchange.proofs.deals.tasks_of.Goals as goal

pub loop-queue-preserved-then-not-is_empty : goal.loop-queue-preserved-then-not-is_empty
loop-queue-preserved-then-not-is_empty c =
    bare_stays c.args.sources.now c.loop-queue.queue c.loop-queue.tasks.items c.loop-queue.invariant
    (grind (arith, listed_at))

pub loop-queue-preserved : goal.loop-queue-preserved
loop-queue-preserved c =
    rw c.in_ok-push.ensures.items
    (bare_more c.args.sources.now c.loop-queue.queue c.loop-queue.tasks.items c.loop-queue.invariant
    (grind (arith, listed_at, nil_from_length)))
