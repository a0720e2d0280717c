use Rattle.std.proofs.Common.{arith, subst, Err, get_or}
use Rattle.rq_record.specs.declared.fault.Fault.{Fault}
use Rattle.rq_record.specs.Views.{version_of}
use Rattle.rq_record.specs.Reading.{Decodes}
use Rattle.rq_front.specs.Chains.{body_at}
use Rattle.rq_front.specs.declared.spans.Span.{Span}
use Rattle.rq_judged.proofs.Readings.{read_stop}
use Rattle.rq_judged.proofs.bodies.read_in_order.Goals as goal

pub returns-in-Err-Form-clause-records : goal.returns-in-Err-Form-clause-records
returns-in-Err-Form-clause-records c =
    let d : Span = record { start = 0; len = 0 } in
    let body = body_at c.args.log.now (get_or c.args.spans.now c.loop-span.span-index d) in
    read_stop (version_of c.args.version) c.args.log.now c.args.spans.now c.loop-span.span-index d _
    (omega arith) c.loop-span.invariant.records c.loop-span.invariant.spelled
    (subst (λ (e : Fault). Decodes (version_of c.args.version) body (Err e)) c.in-Err-Form.field-0-is
    c.in-Err-Form.ensures.decodes)
