use Rattle.std.proofs.Common.{List, length, sym, subst}
use Rattle.std.specs.Prelude.{min}
use Rattle.rq_model.specs.Carrying.{carried_at}
use Rattle.rq_front.specs.declared.spans.Span.{Span}
use Rattle.rq_behind.specs.Behind.{StandApart}
use Rattle.rq_look.proofs.Puts.{both_put}
use Rattle.rq_look.proofs.frontless.dump_frontless.Goals as goal

pub returns-clause-only : goal.returns-clause-only
returns-clause-only g c =
    let held = g.W.Output.contents in
    let frames = c.in_ok-put_frames.ensures.lines in
    both_put (held c.args.output.now) (held c.put_frames.new.output) (held c.write_out.new.output)
    (frames.2.0, frames.2.1) (_, c.in_ok-write_out.ensures.written.0)

pub put_frames-requires-clause-apart : goal.put_frames-requires-clause-apart
put_frames-requires-clause-apart g c =
    let long = length c.args.log.now.bytes.now in
    let from = min carried_at long in
    (from, subst (λ (ss : List Span). StandApart from long ss) (sym c.deref.ensures.value) c.in_ok-end.ensures.apart)
