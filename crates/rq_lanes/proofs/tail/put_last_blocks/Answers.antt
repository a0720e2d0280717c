use Rattle.std.proofs.Common.{arith, refl, ◌∙◌}
use Rattle.rq_lanes.proofs.Blocks.{tail_is}
use Rattle.rq_lanes.proofs.tail.put_last_blocks.Goals as goal

pub returns : goal.returns
returns c = tail_is c.args.len c.args.rest.now _ _ _ _ _ _ _ _ c.requires c.copy_from_slice.ensures.after
    (c.copy_from_slice-2.ensures.after ∙ c.front.ensures)
    (c.copy_from_slice-3.ensures.after ∙ c.to_be_bytes.ensures) refl (omega arith)
