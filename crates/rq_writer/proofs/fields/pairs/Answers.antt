use Rattle.rq_writer.proofs.Hex.{decoded_more}
use Rattle.rq_writer.proofs.fields.pairs.Goals as goal

pub loop-high-preserved : goal.loop-high-preserved
loop-high-preserved c =
    rw c.in_ok-push.ensures.items
    (decoded_more c.args.text.now c.loop-high.bytes.items c.loop-high.rest.now c.in-Some.after.now c.in-Some.high
    c.in-Some.low c.in_ok-pair.field-0
    c.loop-high.invariant c.in-Some.ensures.some c.in_ok-pair.ensures)
