use Rattle.std.proofs.Common.{refl}
use Rattle.rq_report.proofs.lines.put_units_line.Goals as goal

pub returns : goal.returns
returns c = rw (
  c.in_ok-write.ensures.bytes,
  c.committed-committed.ensures,
  c.aborted-aborted.ensures,
  c.cut_off-cut_off.ensures,
) refl
