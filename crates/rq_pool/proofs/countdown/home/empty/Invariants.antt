use Rattle.std.proofs.Common.{◌≡◌, ℕ, ◌<◌, ◌≤◌, false, get_or, take, length, vec_capacity}
use Rattle.rq_pool.proofs.Countdowns.Words.{slots_items, slots_filled, slots_len, Filled, somes}
use Rattle.rq_pool.proofs.countdown.home.empty.Given as goal

abbrev pub invariant-loop-i : goal.invariant-loop-i
invariant-loop-i g l = Filled (slots_filled l.closed.slots) l.i (slots_len l.closed.slots)
    × ((k : ℕ) → k < l.i → get_or (slots_filled l.closed.slots) k false ≡ false)
    × (slots_len l.closed.slots ≡ l.sources)
    × (slots_items l.closed.slots ≡ slots_items l.fn.closed.slots)
    × (l.home.items ≡ somes (take l.i (slots_items l.fn.closed.slots))) × (length l.home.items ≤ l.i)
    × (vec_capacity l.home ≡ vec_capacity l.fn.home)
