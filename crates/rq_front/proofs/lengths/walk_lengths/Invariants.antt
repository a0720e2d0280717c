use Rattle.std.proofs.Common.{◌≤◌, ◌-◌, length}
use Rattle.rq_front.specs.Walks.{IsWalk}
use Rattle.rq_front.proofs.lengths.walk_lengths.Given as goal

abbrev pub invariant-frames : goal.invariant-frames
invariant-frames l = record {
  within : l.end ≤ length l.bytes;
  walk : IsWalk l.bytes l.from l.spans.items l.end;
}

abbrev pub decreases-frames : goal.decreases-frames
decreases-frames l = length l.bytes - l.end
