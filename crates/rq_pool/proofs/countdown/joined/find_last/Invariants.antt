use Rattle.std.proofs.Common.{◌≡◌, ℕ, ◌<◌, get_or}
use Rattle.rq_pool.proofs.Countdowns.Words.{lasts}
use Rattle.rq_pool.proofs.countdown.joined.find_last.Given as goal

abbrev pub invariant-loop-i : goal.invariant-loop-i
invariant-loop-i g l = (k : ℕ) (d : _) → k < l.i → lasts (get_or l.passes.items k d).seat.me.0 ≡ 0
