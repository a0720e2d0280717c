use Rattle.std.proofs.Common.{◌≡◌, ◌≢◌, ℕ, ◌<◌, length, slice_index}
use Rattle.sha2.specs.Sha256.{initial_hash_256}
use Rattle.rq_lanes.specs.Messages.{word_in}
use Rattle.rq_lanes.proofs.digest.reset_lane.Given as goal

abbrev pub invariant-rows : goal.invariant-rows
invariant-rows g l = (length l.hash ≡ 8)
    × ((r : ℕ) → r < l.i → word_in l.hash r l.j ≡ slice_index initial_hash_256 r)
    × ((r k : ℕ) → k ≢ l.j → word_in l.hash r k ≡ word_in l.fn.hash r k)
