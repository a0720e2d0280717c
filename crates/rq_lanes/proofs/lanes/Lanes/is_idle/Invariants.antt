use Rattle.std.proofs.Common.{◌≡◌, ℕ, ◌<◌, false}
use Rattle.rq_lanes.specs.Messages.{held}
use Rattle.rq_lanes.proofs.lanes.Lanes.is_idle.Given as goal

abbrev pub invariant-lanes : goal.invariant-lanes
invariant-lanes g l = (k : ℕ) → k < l.j → (held l.self.lanes k).busy ≡ false
