use Rattle.std.proofs.Common.{◌≡◌, ℕ, [], ◌<◌, length, slice_index, slice_index_or, ◌*◌}
use Rattle.sha2.specs.Sha256.{IsRoundsAt, word_at}
use Rattle.rq_lanes.specs.Messages.{lane, window}
use Rattle.rq_lanes.proofs.lane_blocks.compress.Given as goal

abbrev pub invariant-load : goal.invariant-load
invariant-load g l = (length l.w ≡ 16) × ((j k : ℕ) → j < g.row.N → k < l.i
    → slice_index (window j l.w) k ≡ word_at (slice_index_or l.blocks j []) (4 * k))

abbrev pub invariant-schedule : goal.invariant-schedule
invariant-schedule g l = (j : ℕ) → j < g.row.N
    → IsRoundsAt (slice_index_or l.blocks j []) (lane j l.state) (window j l.w) (lane j l.v) (16 * l.turn)
