use Rattle.std.proofs.Common.{◌≡◌, ℕ, List, ◌+◌, ◌%◌, slice_index, arith, refl}
use Rattle.std.proofs.lemmas.List.{map-set}
use Rattle.rq_lanes.proofs.Columns.{window-lane}
use Rattle.rq_lanes.proofs.lane_blocks.next_word.Goals as goal

pub returns-clause-value : goal.returns-clause-value
returns-clause-value g c j h =
    let at : c.args.index % 16 ≡ c.args.index = omega arith in
    let w = c.args.w.now in
    let index = c.args.index in
    rw (
      window-lane j w ((index + 14) % 16),
      window-lane j w ((index + 9) % 16),
      window-lane j w ((index + 1) % 16),
      window-lane j w (index % 16),
      at,
      c.add-word.ensures j h,
      c.add-sum1.ensures j h,
      c.add-sum0.ensures j h,
      c.xor_three-high.ensures j h,
      c.rotate.ensures j h,
      c.rotate-2.ensures j h,
      c.shift.ensures j h,
      c.xor_three-low.ensures j h,
      c.rotate-3.ensures j h,
      c.rotate-4.ensures j h,
      c.shift-2.ensures j h,
    ) refl

pub returns-clause-window : goal.returns-clause-window
returns-clause-window g c j h = map-set (λ (v : List ℕ). slice_index v j) c.args.w.now c.args.index c.add-word.result
