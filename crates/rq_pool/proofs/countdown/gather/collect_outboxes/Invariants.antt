use Rattle.std.proofs.Common.{◌≡◌, take, vec_capacity}
use Rattle.rq_pool.proofs.Countdowns.Words.{outboxes_in}
use Rattle.rq_pool.proofs.Countdowns.Gathers.{left}
use Rattle.rq_pool.proofs.countdown.gather.collect_outboxes.Given as goal

abbrev pub invariant-loop-i : goal.invariant-loop-i
invariant-loop-i g l = let ys = outboxes_in l.initial.seat.me.1 in
    (l.seat.table_id ≡ l.initial.seat.table_id) × (l.seat.id ≡ l.initial.seat.id) × (l.seat.me.0 ≡ l.initial.seat.me.0)
    × (l.seat.me.1 ≡ left ys l.i) × (l.room.items ≡ take l.i ys) × (vec_capacity l.room ≡ vec_capacity l.initial.room)
