use Rattle.std.proofs.Common.{◌≤◌, ◌-◌, length, take}
use Rattle.std.specs.Prelude.{All}
use Rattle.rq_front.specs.Walks.{IsRight}
use Rattle.rq_front.proofs.digests.wrong_in.Given as goal

abbrev pub invariant-parts : goal.invariant-parts
invariant-parts l = (l.done ≤ length l.spans) × All (IsRight l.bytes) (take l.done l.spans)

abbrev pub decreases-parts : goal.decreases-parts
decreases-parts l = length l.spans - l.done
