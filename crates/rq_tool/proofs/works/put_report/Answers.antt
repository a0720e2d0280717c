use Rattle.std.proofs.lemmas.Result.{err_from_is_err_and}
use Rattle.rq_model.specs.Reports.{IsReport}
use Rattle.rq_front.specs.Chains.{IsLog, Refused}
use Rattle.rq_tool.proofs.Made.{puts_none, reports_puts}
use Rattle.rq_tool.proofs.works.put_report.Goals as goal

pub returns-in_err-restarted : goal.returns-in_err-restarted
returns-in_err-restarted g c =
    let b = c.args.bytes.items in
    let p = err_from_is_err_and c.from_residual.result c.from_residual.ensures.1 in
    rw (p.1, p.2) (puts_none (λ text. IsLog b × IsReport b text) (Refused b) (g.O.Output.faults c.args.output.now)
    (g.O.Output.contents c.args.output.now) c.in_err-restarted.field-0.0 (λ no. no) (λ no. no)
    c.in_err-restarted.ensures)

pub returns : goal.returns
returns g c =
    let b = c.args.bytes.items in
    let h = c.in_ok-restarted.ensures in
    reports_puts (λ text. IsLog b × IsReport b text) (Refused b) c.in_ok-restarted.restarted
    (g.O.Output.faults c.args.output.now) (g.O.Output.faults c.write_report_by.new.output)
    (g.O.Output.contents c.args.output.now) (g.O.Output.contents c.write_report_by.new.output)
    c.write_report_by.result (λ text is. ((h.0, h.1), (c.in_ok-restarted.restarted, h.2, is))) tt
    c.write_report_by.ensures
