use Rattle.std.proofs.Common.{arith, Some}
use Rattle.std.proofs.lemmas.Grind.{common_steps}
use Rattle.rq_pool.proofs.Words.{IsComplete, All-pop}
use Rattle.rq_pool.proofs.deck.Deck.emptied.Goals as goal

pub loop-deck-preserved : goal.loop-deck-preserved
loop-deck-preserved c = record {
  all = (All-pop IsComplete _ _ (Some c.in-Some.deck) c.in-Some.ensures.items c.loop-deck.invariant.all).0;
  reserved = grind (arith, common_steps);
  sums = grind (arith, common_steps);
}

pub empty-requires-clause-whole : goal.empty-requires-clause-whole
empty-requires-clause-whole c = (All-pop IsComplete _ _ (Some c.in-Some.deck)
    c.in-Some.ensures.items c.loop-deck.invariant.all).1
