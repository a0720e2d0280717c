use Rattle.std.proofs.Common.{refl, sym}
use Rattle.sha2.proofs.Schedule256.{rounds_first}
use Rattle.rq_lanes.specs.Messages.{lane, window as window_of}
use Rattle.rq_lanes.proofs.Columns.{window-lane}
use Rattle.rq_lanes.proofs.lane_blocks.first_step.Goals as goal

pub returns : goal.returns
returns g c = λ j low b h window held.
    rounds_first b h (window_of j c.args.w.now) (lane j c.args.v) c.args.t _ _ _ c.requires window held refl
    (sym (window-lane j c.args.w.now c.args.t)) (c.round.ensures j low)
