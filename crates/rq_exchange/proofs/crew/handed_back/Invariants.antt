use Rattle.std.proofs.Common.{All, length}
use Rattle.rq_exchange.proofs.Words.{Room, CountdownChain, Job, Works, AreHandedBack}
use Rattle.rq_exchange.proofs.crew.handed_back.Given as goal

abbrev pub invariant-loop-one : goal.invariant-loop-one
invariant-loop-one l = (job : Job) (chain : CountdownChain) (room : Room) → All (Works job chain room) l.fn.ended.items
    → AreHandedBack job chain room (length l.yielded) l.seats.items l.all.items
