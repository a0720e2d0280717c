use Rattle.std.proofs.Common.{Bool, OnOk, subst, sym}
use Rattle.rq_look.specs.Looks.{PutsReportAs}
use Rattle.rq_look.proofs.Puts.{then_ok}
use Rattle.rq_look.proofs.reports.report.Goals as goal

pub returns-then-json-clause-report : goal.returns-then-json-clause-report
returns-then-json-clause-report g c =
    let held = g.W.Output.contents in
    let log = c.args.log.now in
    let known = c.in_ok-restarted.ensures in
    subst (λ (j : Bool). OnOk c.put_json.result (PutsReportAs j log.at log.bytes.now c.args.wanted
    (held c.args.output.now) (held c.put_json.new.output))) (sym c.if-json.true)
    (then_ok _ _ (λ put. (known.log, c.in_ok-restarted.restarted, known.restart.0, known.restart.1, put))
    c.put_json.result c.put_json.ensures.report)

pub returns-clause-report : goal.returns-clause-report
returns-clause-report g c =
    let held = g.W.Output.contents in
    let log = c.args.log.now in
    subst (λ (j : Bool). OnOk c.put_text.result (PutsReportAs j log.at log.bytes.now c.args.wanted
    (held c.args.output.now) (held c.put_text.new.output))) (sym c.if-json.false) c.put_text.ensures.report
