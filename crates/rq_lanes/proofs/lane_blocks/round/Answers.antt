use Rattle.std.proofs.Common.{refl}
use Rattle.rq_lanes.proofs.lane_blocks.round.Goals as goal

pub returns : goal.returns
returns g c j h =
    rw (
      c.add-next_first.ensures j h,
      c.add-next_fifth.ensures j h,
      c.add-temp2.ensures j h,
      c.maj-most.ensures j h,
      c.xor_three-high0.ensures j h,
      c.rotate-4.ensures j h,
      c.rotate-5.ensures j h,
      c.rotate-6.ensures j h,
      c.add-temp1.ensures j h,
      c.add-sum2.ensures j h,
      c.add-sum1.ensures j h,
      c.add-sum0.ensures j h,
      c.splat.ensures j h,
      c.ch-chosen.ensures j h,
      c.xor_three-high1.ensures j h,
      c.rotate.ensures j h,
      c.rotate-2.ensures j h,
      c.rotate-3.ensures j h,
    ) refl
