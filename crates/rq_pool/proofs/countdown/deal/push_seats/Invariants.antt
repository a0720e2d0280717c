use Rattle.std.proofs.Common.{◌≡◌, ◌+◌, ◌≤◌, [], All, length, vec_capacity, Some, None}
use Rattle.rq_pool.proofs.Countdowns.Words.{view}
use Rattle.rq_pool.proofs.countdown.deal.push_seats.Given as goal

abbrev pub invariant-loop-room : goal.invariant-loop-room
invariant-loop-room g l = (l.seat.table_id ≡ l.board.table_id)
    × All (λ v. (v.items ≡ []) × (l.board.table_id.slots ≤ vec_capacity v)) l.rooms.items
    × ((l.last.items ≡ []) × (l.board.table_id.slots ≤ vec_capacity l.last))
    × (l.seat.me ≡ (view (length l.rooms.items + 1) (Some l.board.key.key) None [] [], []))
    × (length l.list.items + length l.rooms.items + 1 ≡ length l.fn.rooms.items)
    × (vec_capacity l.list ≡ vec_capacity l.fn.list)
    × All (λ p. (p.seat.table_id ≡ l.board.table_id) × (p.seat.me.0 ≡ view 1 (Some l.board.key.key) None [] [])
    × (p.diary ≡ [])) l.list.items

abbrev pub decreases-loop-room : goal.decreases-loop-room
decreases-loop-room g l = goal.left-loop-room g l
