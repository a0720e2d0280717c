use Rattle.rq_model.proofs.Longest.{one_restart}
use Rattle.rq_model.proofs.Texts.{one_text, one_audit, one_report as proved}
use Rattle.rq_model.proofs.FromCheckpoints.{one_restart_at}
use Rattle.rq_model.proofs.WorkedReports.{front_has_report}
use Rattle.rq_model.proofs.one_report.Goals as goal

pub returns-clause-restart : goal.returns-clause-restart
returns-clause-restart c = one_restart

pub returns-clause-text : goal.returns-clause-text
returns-clause-text c = one_text

pub returns-clause-report : goal.returns-clause-report
returns-clause-report c = proved

pub returns-clause-some : goal.returns-clause-some
returns-clause-some c = front_has_report

pub returns-clause-restart_at : goal.returns-clause-restart_at
returns-clause-restart_at c = one_restart_at

pub returns-clause-audit : goal.returns-clause-audit
returns-clause-audit c = one_audit
