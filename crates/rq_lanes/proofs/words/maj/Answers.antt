use Rattle.std.proofs.Common.{slice_index}
use Rattle.rq_lanes.proofs.ChMaj.{maj_short}
use Rattle.rq_lanes.proofs.words.maj.Goals as goal

pub returns : goal.returns
returns g c j h =
    rw (c.xor-3.ensures j h, c.and.ensures j h, c.xor.ensures j h, c.xor-2.ensures j h)
    (maj_short (slice_index c.args.x j) (slice_index c.args.y j) (slice_index c.args.z j))
