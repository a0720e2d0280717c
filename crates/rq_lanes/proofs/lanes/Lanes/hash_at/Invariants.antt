use Rattle.std.proofs.Common.{ℕ, ◌<◌, ◌≤◌}
use Rattle.rq_lanes.specs.Messages.{lane, HasTakenIn, held}
use Rattle.rq_lanes.proofs.lanes.Lanes.hash_at.Given as goal

abbrev pub invariant-steps : goal.invariant-steps
invariant-steps g l = (j : ℕ) → j < g.row.N → HasTakenIn l.bytes (held l.self.lanes j) l.self.clock (lane j l.self.hash)
    → l.end ≤ (held l.self.lanes j).due → HasTakenIn l.bytes (held l.self.lanes j) l.clock (lane j l.hash)
