use Rattle.std.proofs.Common.{refl}
use Rattle.std.proofs.lemmas.Result.{err_from_is_err_and}
use Rattle.rq_model.specs.Carrying.{IsCarriedReport}
use Rattle.rq_front.specs.Chains.{IsLog}
use Rattle.rq_judged.specs.Refusals.{RefusedCarried}
use Rattle.rq_tool.proofs.Made.{puts_none, reports_puts}
use Rattle.rq_tool.proofs.works.put_carried_report.Goals as goal

pub returns-in_err-carried : goal.returns-in_err-carried
returns-in_err-carried g c =
    let b = c.args.bytes.items in
    let offset = c.args.offset in
    let p = err_from_is_err_and c.from_residual.result c.from_residual.ensures.1 in
    rw (p.1, p.2) (puts_none (λ text. IsLog b × IsCarriedReport b offset text) (RefusedCarried b offset)
    (g.O.Output.faults c.args.output.now) (g.O.Output.contents c.args.output.now) c.in_err-carried.field-0.0
    (λ no. no) (λ no. no) c.in_err-carried.ensures)

pub returns : goal.returns
returns g c =
    let b = c.args.bytes.items in
    let offset = c.args.offset in
    let h = c.in_ok-carried.ensures in
    reports_puts (λ text. IsLog b × IsCarriedReport b offset text) (RefusedCarried b offset)
    c.in_ok-carried.carried
    (g.O.Output.faults c.args.output.now) (g.O.Output.faults c.write_report_by.new.output)
    (g.O.Output.contents c.args.output.now) (g.O.Output.contents c.write_report_by.new.output)
    c.write_report_by.result (λ text is. ((h.0, h.1), (c.in_ok-carried.carried, h.2, is))) tt
    c.write_report_by.ensures
