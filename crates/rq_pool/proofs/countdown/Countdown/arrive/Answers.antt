use Rattle.std.proofs.Common.{arith, rules}
use Rattle.rq_pool.proofs.Countdowns.Words.{common_steps}
use Rattle.rq_pool.proofs.Countdowns.Gathers.{contents_numbered}
use Rattle.rq_pool.proofs.Countdowns.Views.{lasts_after}
use Rattle.rq_pool.proofs.countdown.Countdown.arrive.Goals as goal

pub invariant_of-pass-then-not-hand_in : goal.invariant_of-pass-then-not-hand_in
invariant_of-pass-then-not-hand_in g c = record {
  told = first_of (search rules, grind (arith, common_steps, lasts_after));
  gave_back = first_of (search rules, grind (arith, common_steps, lasts_after));
  rests = first_of (search rules, grind (arith, common_steps, lasts_after));
  has_room = first_of (search rules, grind (arith, common_steps, lasts_after));
  was_last = first_of (search rules, grind (arith, common_steps, lasts_after));
}

pub collect_outboxes-requires-clause-slots : goal.collect_outboxes-requires-clause-slots
collect_outboxes-requires-clause-slots g c = grind (arith, common_steps, contents_numbered)

pub invariant_of-pass-in-Some : goal.invariant_of-pass-in-Some
invariant_of-pass-in-Some g c = record {
  told = first_of (search rules, grind (arith, common_steps, lasts_after, contents_numbered));
  gave_back = first_of (search rules, grind (arith, common_steps, lasts_after, contents_numbered));
  rests = first_of (search rules, grind (arith, common_steps, lasts_after, contents_numbered));
  has_room = first_of (search rules, grind (arith, common_steps, lasts_after, contents_numbered));
  was_last = first_of (search rules, grind (arith, common_steps, lasts_after, contents_numbered));
}
