use Rattle.std.proofs.Common.{refl, arith}
use Rattle.rq_behind.specs.declared.mending.Mending.{Mending}
use Rattle.rq_behind.proofs.Advances.{fresh, goes_to}
use Rattle.rq_behind.proofs.mended_logs.with_header.Goals as goal

pub returns-clause-begun : goal.returns-clause-begun
returns-clause-begun c = λ from.
    let m : Mending = record { bytes = c.args.bytes; changes = c.new.result; at = 0 } in
    let n = c.try_headers.new.self in
    let k : Mending = record { bytes = n.bytes; changes = n.changes; at = c.max.result } in
    let first = fresh m c.new.ensures.items (omega arith) in
    let mended = c.in_ok-try_headers.ensures.goes.mended c.args.bytes.items 0 first in
    let low = c.max.ensures in
    let raised = goes_to n k refl refl (omega (arith, low))
    (λ h. omega (arith, h, low, c.in_ok-try_headers.ensures.goes.size, c.if-len-lt-HEADER_LEN.false, c.len.ensures)) in
    record {
      least = 0;
      mended = raised.mended c.args.bytes.items 0 mended;
      after = omega (arith, low);
      front = λ headed. absurd (c.requires.lost headed);
    }
