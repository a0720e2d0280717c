use Rattle.rq_model.proofs.WorkedReports.{worked_logs as proved, unlawful_logs, worked_checkpoint}
use Rattle.rq_model.proofs.worked_logs.Goals as goal

pub returns-clause-whole : goal.returns-clause-whole
returns-clause-whole c = proved

pub returns-clause-unlawful : goal.returns-clause-unlawful
returns-clause-unlawful c = unlawful_logs

pub returns-clause-checkpoint : goal.returns-clause-checkpoint
returns-clause-checkpoint c = worked_checkpoint
