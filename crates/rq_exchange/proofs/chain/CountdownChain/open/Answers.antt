use Rattle.std.proofs.Common.{◌≡◌, [], length, refl, arith, rules}
use Rattle.rq_exchange.proofs.Words.{CountdownChain}
use Rattle.rq_exchange.proofs.Openings.{opened_more, columns_long, has_passes, rows_are, is_chain}
use Rattle.rq_exchange.proofs.chain.CountdownChain.open.Goals.{In_ok-rows}
use Rattle.rq_exchange.proofs.chain.CountdownChain.open.Goals as goal

pub loop-queue-init : goal.loop-queue-init
loop-queue-init c = rw (c.in_ok-slots.ensures.items, c.new-countdowns.ensures.items, c.new-all.ensures.items) (record {
  queues = [];
  long = refl;
  few = omega arith;
  bare = λ x lt. absurd (omega (arith, lt));
  fed = λ x lt. absurd (omega (arith, lt));
  keyed = tt;
  fresh = tt;
})

pub loop-queue-preserved : goal.loop-queue-preserved
loop-queue-preserved c = opened_more _ _ _ _ _ _ _ c.loop-queue.invariant _ _ _ c.in_ok-slot.ensures.opened
    c.in_ok-push.ensures.items

pub columns-requires : goal.columns-requires
columns-requires c = columns_long _ _ _ (record { countdowns = c.loop-queue.countdowns; slots = c.loop-queue.slots }) _
    c.loop-queue.invariant

abbrev chain : In_ok-rows → CountdownChain
chain c = record { countdowns = c.loop-queue.countdowns; slots = c.loop-queue.slots }

pub returns-clause-chain : goal.returns-clause-chain
returns-clause-chain c =
    let end : c.loop-queue.queue ≡ length c.args.job.now.definitions.now = search rules in
    is_chain _ c.requires.job _ (chain (goal.at.returns-clause-chain c).In_ok-rows) _ (rw end at c.loop-queue.invariant)

pub returns-clause-passes : goal.returns-clause-passes
returns-clause-passes c =
    has_passes _ _ _ (chain (goal.at.returns-clause-passes c).In_ok-rows) _ c.loop-queue.invariant

pub returns-clause-rows : goal.returns-clause-rows
returns-clause-rows c = rows_are _ _ _ (chain (goal.at.returns-clause-rows c).In_ok-rows) _ c.loop-queue.invariant _
    c.in_ok-rows.ensures.columns
