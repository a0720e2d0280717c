use Rattle.std.proofs.Common.{◌≡◌, ◌*◌, take, drop, length, nat_le}
use Rattle.rq_writer.specs.Reading.{pairs_of}
use Rattle.rq_serve.proofs.Pairs.{joined}
use Rattle.rq_serve.proofs.payloads.put_pairs.Given as goal

abbrev pub invariant-loop-at : goal.invariant-loop-at
invariant-loop-at l =
    (length l.bytes ≡ length l.fn.bytes)
    × (pairs_of l.digits ≡ joined (nat_le 16 l.most) (take l.at l.bytes) (pairs_of (drop (2 * l.at) l.digits)))
