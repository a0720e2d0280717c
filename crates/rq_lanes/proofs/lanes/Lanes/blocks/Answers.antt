use Rattle.std.proofs.Common.{rules, arith}
use Rattle.rq_lanes.proofs.Holding.{more_blocks}
use Rattle.rq_lanes.proofs.lanes.Lanes.blocks.Goals as goal

pub lanes-preserved : goal.lanes-preserved
lanes-preserved g c = (
  search rules,
  λ k words lt run below.
      more_blocks c.args.bytes.now c.args.self.now.lanes c.args.clock c.lanes.blocks c.lanes.j c.block.result k words
      (omega arith)
      c.block.ensures (λ ws low r d. c.lanes.invariant.1 k ws low r d) lt run below,
)
