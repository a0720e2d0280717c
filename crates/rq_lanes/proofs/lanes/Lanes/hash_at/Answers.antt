use Rattle.std.proofs.Common.{◌<◌, slice_index_or, [], arith}
use Rattle.rq_lanes.specs.Messages.{lane, held}
use Rattle.rq_lanes.proofs.Blocks.{runs_on}
use Rattle.rq_lanes.proofs.lanes.Lanes.hash_at.Goals as goal

pub steps-preserved : goal.steps-preserved
steps-preserved g c j low run below =
    let r = c.steps.invariant j low run below in
    let l = held c.args.self.now.lanes j in
    let before : c.steps.clock < l.due = omega arith in
    runs_on c.args.bytes.now l c.steps.clock (lane j c.steps.hash)
    (slice_index_or c.blocks-blocks.result j []) _ r before
    (c.blocks-blocks.ensures j (lane j c.steps.hash) low r before) (c.compress-hash.ensures j low)
