use Rattle.std.proofs.Common.{length}
use Rattle.rq_exchange.proofs.Words.{State, AreParts}
use Rattle.rq_queue.specs.Pouring.{HasPoured}
use Rattle.rq_exchange.proofs.gathered.pour_all.Given as goal

abbrev pub invariant-loop-slot : goal.invariant-loop-slot
invariant-loop-slot l = (t : State) → AreParts t l.fn.parts.items → HasPoured t (length l.yielded) l.fn.fields l.poured
