use Rattle.std.proofs.Common.{refl, subst}
use Rattle.std.proofs.lemmas.Result.{err_from_is_err_and}
use Rattle.rq_model.specs.Checkpoints.{IsReportAt}
use Rattle.rq_model.specs.Frames.{AreBytes}
use Rattle.rq_front.specs.Chains.{IsLog}
use Rattle.rq_tool.specs.Works.{HasNoReportAt}
use Rattle.rq_tool.proofs.Made.{no_report_at, puts_none, reports_puts}
use Rattle.rq_tool.proofs.works.put_report_at.Goals as goal

pub returns-in_err-from_there : goal.returns-in_err-from_there
returns-in_err-from_there g c =
    let b = c.args.bytes.items in
    let offset = c.args.offset in
    let p = err_from_is_err_and c.from_residual.result c.from_residual.ensures.1 in
    let why = no_report_at c.every_log_has_report.ensures c.true_checkpoints_report_the_same.ensures
    c.versions.ensures.header b offset c.in_err-from_there.field-0.0
    (subst AreBytes c.deref.ensures.value c.are_bytes.ensures) c.in_err-from_there.ensures in
    rw (p.1, p.2) (puts_none (λ text. IsLog b × IsReportAt b offset text) (HasNoReportAt b offset)
    (g.O.Output.faults c.args.output.now) (g.O.Output.contents c.args.output.now) c.in_err-from_there.field-0.0
    (λ no. no.0) (λ no. no.0) why)

pub returns : goal.returns
returns g c =
    let b = c.args.bytes.items in
    let offset = c.args.offset in
    let h = c.in_ok-from_there.ensures in
    reports_puts (λ text. IsLog b × IsReportAt b offset text) (HasNoReportAt b offset) c.in_ok-from_there.from_there
    (g.O.Output.faults c.args.output.now) (g.O.Output.faults c.write_report_by.new.output)
    (g.O.Output.contents c.args.output.now) (g.O.Output.contents c.write_report_by.new.output)
    c.write_report_by.result (λ text is. ((h.0, h.1), (c.in_ok-from_there.from_there, h.2, is))) (tt, λ _. refl)
    c.write_report_by.ensures
