use Rattle.std.proofs.Common.{◌≡◌, ◌≤◌, [], All, length, vec_capacity}
use Rattle.rq_pool.proofs.countdown.deal.rooms.Given as goal

abbrev pub invariant-loop : goal.invariant-loop
invariant-loop g l = (length l.rooms.items ≡ l.counter) × (l.passes ≤ vec_capacity l.rooms)
    × All (λ v. (v.items ≡ []) × (l.sources ≤ vec_capacity v)) l.rooms.items
