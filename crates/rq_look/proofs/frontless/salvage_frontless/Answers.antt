use Rattle.rq_look.proofs.Puts.{both_put}
use Rattle.rq_look.proofs.frontless.salvage_frontless.Goals as goal

pub returns-clause-only : goal.returns-clause-only
returns-clause-only g c =
    let held = g.W.Output.contents in
    let spans = c.in_ok-put_spans.ensures.only in
    both_put (held c.args.output.now) (held c.write_out.new.output) (held c.put_spans.new.output)
    (_, c.in_ok-write_out.ensures.written.0) (spans.0, spans.1)
