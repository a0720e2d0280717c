use Rattle.std.proofs.Common.{take}
use Rattle.std.specs.Prelude.{All}
use Rattle.rq_front.specs.Walks.{IsRight}
use Rattle.rq_front.proofs.digests.wrong_among.Given as goal

abbrev pub invariant-loop-i : goal.invariant-loop-i
invariant-loop-i l = All (IsRight l.bytes) (take l.i l.spans)
