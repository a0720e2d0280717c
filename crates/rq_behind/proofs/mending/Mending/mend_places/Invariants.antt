use Rattle.std.proofs.Common.{◌≤◌, ◌-◌, length}
use Rattle.rq_behind.specs.Mending.{MendsOn}
use Rattle.rq_behind.proofs.mending.Mending.mend_places.Given as goal

abbrev pub invariant-places : goal.invariant-places
invariant-places g l = record {
  goes : MendsOn l.fn.self l.self;
  low : 40 ≤ l.self.at;
  high : l.self.at ≤ length l.self.bytes.items;
}

abbrev pub decreases-places : goal.decreases-places
decreases-places g l = length l.self.bytes.items - l.self.at
