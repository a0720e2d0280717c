use Rattle.std.proofs.Common.{◌≡◌, ◌+◌, All, length}
use Rattle.rq_exchange.proofs.Words.{Room, CountdownChain, IsFreshSeat, AreFreshPasses, IsFreshWorker}
use Rattle.rq_exchange.proofs.crew.paired.Given as goal

abbrev pub invariant-loop-seat : goal.invariant-loop-seat
invariant-loop-seat l =
    (length l.rows.items ≡ length l.seats.items)
    × (length l.workers.items + length l.seats.items ≡ length l.fn.seats.items)
    × ((chain : CountdownChain) (room : Room) → All (IsFreshSeat room) l.fn.seats.items
    → All (AreFreshPasses chain) l.fn.rows.items → All (IsFreshSeat room) l.seats.items
    × All (AreFreshPasses chain) l.rows.items × All (IsFreshWorker chain room) l.workers.items)

abbrev pub decreases-loop-seat : goal.decreases-loop-seat
decreases-loop-seat l = length l.seats.items
