use Rattle.std.proofs.Common.{◌≡◌, ◌+◌, take, sum_by}
use Rattle.rq_queue.specs.Rooms.{member_bytes}
use Rattle.rq_standing.proofs.spelled.parts_fit.Given as goal

abbrev pub invariant-loop-part : goal.invariant-loop-part
invariant-loop-part l = l.left + sum_by member_bytes (take l.part-index l.parts) ≡ l.room
