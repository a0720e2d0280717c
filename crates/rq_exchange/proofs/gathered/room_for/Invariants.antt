use Rattle.std.proofs.Common.{◌≡◌, length}
use Rattle.rq_exchange.proofs.gathered.room_for.Given as goal

abbrev pub invariant-loop : goal.invariant-loop
invariant-loop l = length l.parts.items ≡ l.counter
