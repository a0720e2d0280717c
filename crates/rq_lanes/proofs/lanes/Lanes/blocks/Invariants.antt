use Rattle.std.proofs.Common.{◌≡◌, ℕ, List, [], ◌<◌, length, slice_index_or}
use Rattle.rq_lanes.specs.Messages.{HasTakenIn, block_at, held}
use Rattle.rq_lanes.proofs.lanes.Lanes.blocks.Given as goal

abbrev pub invariant-lanes : goal.invariant-lanes
invariant-lanes g l = (length l.blocks ≡ g.row.N)
    × ((k : ℕ) (words : List ℕ) → k < l.j → HasTakenIn l.bytes (held l.self.lanes k) l.clock words
    → l.clock < (held l.self.lanes k).due
    → slice_index_or l.blocks k [] ≡ block_at l.bytes (held l.self.lanes k) l.clock)
