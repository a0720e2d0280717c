use Rattle.std.proofs.Common.{ℕ, ◌<◌, ◌≤◌}
use Rattle.rq_lanes.specs.Messages.{held}
use Rattle.rq_lanes.proofs.lanes.Lanes.soonest.Given as goal

abbrev pub invariant-lanes : goal.invariant-lanes
invariant-lanes g l = (l.best < g.row.N)
    × ((k : ℕ) → k < l.j → (held l.self.lanes l.best).due ≤ (held l.self.lanes k).due)
