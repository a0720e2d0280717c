use Rattle.std.proofs.Common.{◌≡◌, ℕ, [], ◌<◌, length, slice_index, slice_index_or}
use Rattle.sha2.specs.Sha256.{word_at}
use Rattle.rq_lanes.proofs.lane_blocks.words_at.Given as goal

abbrev pub invariant-lanes : goal.invariant-lanes
invariant-lanes g l = (length l.words ≡ g.row.N)
    × ((k : ℕ) → k < l.j → slice_index l.words k ≡ word_at (slice_index_or l.blocks k []) l.i)
