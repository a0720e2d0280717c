use Rattle.std.proofs.Common.{◌≡◌, ◌*◌, length, take}
use Rattle.sha2.specs.Sha256.{digest_bytes}
use Rattle.rq_lanes.specs.Messages.{lane}
use Rattle.rq_lanes.proofs.digest.digest_of.Given as goal

abbrev pub invariant-words : goal.invariant-words
invariant-words g l = (length l.out ≡ 32) × (take (4 * l.i) l.out ≡ digest_bytes (lane l.j l.hash) l.i)
