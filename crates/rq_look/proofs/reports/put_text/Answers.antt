use Rattle.std.proofs.Common.{ℕ, Option, OnOk, false, subst, sym}
use Rattle.rq_look.specs.Looks.{HasQueue, PutsReportAs}
use Rattle.rq_look.proofs.Puts.{then_ok}
use Rattle.rq_look.proofs.reports.put_text.Goals as goal

pub put_queue-requires-clause-queue : goal.put_queue-requires-clause-queue
put_queue-requires-clause-queue g c = subst (HasQueue c.args.restarted.now) c.in-Some.is c.requires.restart.1

pub returns-in-Some-clause-report : goal.returns-in-Some-clause-report
returns-in-Some-clause-report g c =
    let held = g.W.Output.contents in
    let log = c.args.log.now in
    let restart = c.requires.restart in
    let has = subst (HasQueue c.args.restarted.now) c.in-Some.is restart.1 in
    subst (λ (wanted : Option ℕ). OnOk c.put_queue.result (PutsReportAs false log.at log.bytes.now wanted
    (held c.args.output.now) (held c.put_queue.new.output))) (sym c.in-Some.is)
    (then_ok _ _ (λ put. (c.requires.log, c.args.restarted.now, restart.0, has, put)) c.put_queue.result
    c.put_queue.ensures.queue)

pub returns-in-None-clause-report : goal.returns-in-None-clause-report
returns-in-None-clause-report g c =
    let held = g.W.Output.contents in
    let log = c.args.log.now in
    subst (λ (wanted : Option ℕ). OnOk c.put_whole.result (PutsReportAs false log.at log.bytes.now wanted
    (held c.args.output.now) (held c.put_whole.new.output))) (sym c.in-None.is) c.put_whole.ensures.report
