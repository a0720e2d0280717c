use Rattle.std.proofs.Common.{◌≡◌, ◌<◌, ◌≤◌, ◌-◌, length}
use Rattle.rq_tool.specs.Streams.{CountsTaken}
use Rattle.rq_tool.proofs.input.counted.Given as goal

abbrev pub invariant-loop-total : goal.invariant-loop-total
invariant-loop-total g l = record {
  faults : g.I.Input.faults l.input ≡ g.I.Input.faults l.fn.input;
  count : CountsTaken (g.I.Input.remaining l.fn.input) (g.I.Input.remaining l.input) l.fn.read l.total;
  limit : l.total ≤ 4294967296;
  piece : 0 < length l.piece;
}

abbrev pub decreases-loop-total : goal.decreases-loop-total
decreases-loop-total g l = 4294967296 - l.total
