use Rattle.std.proofs.Common.{◌++◌, ◌-◌, ◌≤◌, length, drop}
use Rattle.rq_model.specs.Records.{Two}
use Rattle.rq_model.specs.Frames.{before, frames, header, start}
use Rattle.rq_restart.specs.Upgrades.{bodies_in}
use Rattle.rq_restart.proofs.Upgradings.{IsRechained}
use Rattle.rq_restart.proofs.upgrades.chained_anew.Given as goal

abbrev pub invariant-loop : goal.invariant-loop
invariant-loop l = record {
  some : 32 ≤ length l.out.items;
  chained : IsRechained l.bytes l.at (l.count - l.counter) l.out.items (before (length l.out.items) l.out.items)
      (header Two ++ frames (start Two) (bodies_in l.count (drop 40 l.bytes)));
}
