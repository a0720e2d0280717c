use Rattle.std.proofs.Common.{◌≡◌, ℕ, map, take, vec_len, vec_items}
use Rattle.rq_exchange.proofs.Words.{times, times_in, size}
use Rattle.rq_exchange.proofs.deals.dealt_room.Given as goal

abbrev pub invariant-loop-i : goal.invariant-loop-i
invariant-loop-i l = (vec_len l.lists ≡ l.workers)
    × ((x : ℕ) → times_in x (map vec_items l.lists.items) ≡ times x (take l.i l.tasks))
    × (size (map vec_items l.lists.items) ≡ l.i)
