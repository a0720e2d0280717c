use Rattle.std.proofs.Common.{◌≤◌, ◌-◌, length}
use Rattle.rq_front.specs.Walks.{AreSideBySide}
use Rattle.rq_front.proofs.digests.cut.Given as goal

abbrev pub invariant-pieces : goal.invariant-pieces
invariant-pieces l = (l.done ≤ length l.spans) × AreSideBySide 0 l.pieces.items l.done

abbrev pub decreases-pieces : goal.decreases-pieces
decreases-pieces l = length l.spans - l.done
