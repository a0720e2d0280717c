use Rattle.std.proofs.Common.{◌-◌, ◌∙◌, arith}
use Rattle.rq_lanes.proofs.Blocks.{block_of_text, block_first_tail, block_second_tail}
use Rattle.rq_lanes.proofs.lanes.Lane.block.Goals as goal

pub returns-then-from-bytes : goal.returns-then-from-bytes
returns-then-from-bytes c words r lt =
    let l = c.args.self.now in
    block_of_text c.args.bytes.now l.message (c.args.clock - l.born) _ _ (omega (arith, r.fills.within))
    (omega (arith, r.begun)) (omega (arith, r.begun, r.fills.within)) c.copy_from_slice.ensures.after

pub returns-then-index-whole-2 : goal.returns-then-index-whole-2
returns-then-index-whole-2 c words r lt =
    let l = c.args.self.now in
    c.copy_from_slice-then-index-whole-2.ensures.after
    ∙ block_first_tail c.args.bytes.now l (c.args.clock - l.born) r.fills (omega (arith, r.begun))

pub returns-else-index-whole-2 : goal.returns-else-index-whole-2
returns-else-index-whole-2 c words r lt =
    let l = c.args.self.now in
    c.copy_from_slice-else-index-whole-2.ensures.after
    ∙ block_second_tail c.args.bytes.now l (c.args.clock - l.born) r.fills (omega (arith, r.begun))
    (omega (arith, r.begun))
