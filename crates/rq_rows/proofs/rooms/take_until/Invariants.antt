use Rattle.rq_pool.specs.Rooms.{IsSeatOf}
use Rattle.rq_rows.proofs.rooms.take_until.Given as goal

abbrev pub invariant-loop : goal.invariant-loop
invariant-loop l = IsSeatOf l.room l.seat
