use Rattle.std.proofs.Common.{◌≡◌, ◌<◌, [], All, None}
use Rattle.rq_pool.proofs.Countdowns.Joins.{Holds}
use Rattle.rq_pool.proofs.countdown.joined.join_all.Given as goal

abbrev pub invariant-loop-pass : goal.invariant-loop-pass
invariant-loop-pass g l = All (λ p. p.seat.table_id ≡ l.board.table_id) l.passes.items
    × (l.seat.table_id ≡ l.board.table_id) × (l.seat.me.1 ≡ []) × (l.seat.me.0.at ≡ None) × (0 < l.seat.me.0.parts)
    × Holds (λ p. p.seat.me.0) l.passes.items l.seat.me.0 l.fn.passes.items

abbrev pub decreases-loop-pass : goal.decreases-loop-pass
decreases-loop-pass g l = goal.left-loop-pass g l
