use Rattle.std.proofs.Common.{◌∙◌}
use Rattle.rq_look.proofs.Puts.{both_put}
use Rattle.rq_look.proofs.salvages.put_spans.Goals as goal

pub loop-span-preserved : goal.loop-span-preserved
loop-span-preserved g c =
    let held = g.W.Output.contents in
    let inv = c.loop-span.invariant in
    let put = c.in_ok-relieve.ensures.written in (
      both_put (held c.args.output.now) (held c.loop-span.output) (held c.relieve.new.output) inv.0 (put.0, put.1),
      c.in_ok-relieve.ensures.faults ∙ inv.1,
    )

pub returns-clause-only : goal.returns-clause-only
returns-clause-only g c =
    let held = g.W.Output.contents in
    both_put (held c.args.output.now) (held c.loop-span.output) (held c.write_out.new.output) c.loop-span.invariant.0
    (_, c.in_ok-write_out.ensures.written.0)
