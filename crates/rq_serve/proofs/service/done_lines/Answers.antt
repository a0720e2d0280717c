use Rattle.std.proofs.Common.{sym, ◌∙◌}
use Rattle.rq_writer.proofs.Parts.{cut_shorter}
use Rattle.rq_serve.proofs.Lines.{behind_more, ends_line}
use Rattle.rq_serve.proofs.service.done_lines.Goals as goal

pub loop-line-smaller : goal.loop-line-smaller
loop-line-smaller g c =
    cut_shorter 10 c.loop-line.rest.now (c.in-Some.line.now, c.in-Some.after.now) (sym c.in-Some.ensures)

pub loop-line-preserved : goal.loop-line-preserved
loop-line-preserved g c = (
  c.in_ok-done_line.ensures.order,
  c.in_ok-done_line.ensures.works ∙ c.loop-line.invariant.1,
  behind_more c.args.bytes.now c.loop-line.rest.now c.in-Some.line.now c.in-Some.after.now c.loop-line.invariant.2
      c.in-Some.ensures,
)

pub returns-clause-lines : goal.returns-clause-lines
returns-clause-lines g c =
    rw (c.saturating_sub.ensures) (ends_line c.args.bytes.now c.loop-line.rest.now c.loop-line.invariant.2)
