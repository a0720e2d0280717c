use Rattle.rq_model.specs.States.{empty}
use Rattle.rq_restart.specs.Audits.{audits}
use Rattle.rq_restart.proofs.Audited.{is_audit}
use Rattle.rq_restart.proofs.audits.every_log_has_audit.Goals as goal

pub returns : goal.returns
returns c version b fits short head =
    let (text, report) = c.every_log_has_report.ensures version b fits short head in
    let restart = report.1 in
    (audits empty 40 restart.records, is_audit restart.version c.one_front.ensures.front b restart.records restart.rest restart.front)
