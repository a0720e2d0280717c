use Rattle.std.proofs.Common.{◌≡◌, ◌<◌, ◌≤◌, ◌-◌, length}
use Rattle.rq_tool.specs.Streams.{ReadsOn, TakesSome}
use Rattle.rq_tool.proofs.input.read_up_to.Given as goal

abbrev pub invariant-loop-input : goal.invariant-loop-input
invariant-loop-input g l = record {
  faults : g.I.Input.faults l.input ≡ g.I.Input.faults l.fn.input;
  read : ReadsOn (g.I.Input.remaining l.fn.input) l.fn.bytes.items (g.I.Input.remaining l.input) l.bytes.items;
  some : TakesSome (g.I.Input.remaining l.fn.input) (g.I.Input.remaining l.input);
  limit : length l.bytes.items ≤ l.fn.most;
  piece : 0 < length l.piece;
}

abbrev pub decreases-loop-input : goal.decreases-loop-input
decreases-loop-input g l = l.fn.most - length l.bytes.items
