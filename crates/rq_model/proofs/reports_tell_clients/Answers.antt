use Rattle.rq_model.proofs.Accounts.{report_tells, beginning_tells, checkpoint_tells}
use Rattle.rq_model.proofs.FilesTogether.{files_tell_clients}
use Rattle.rq_model.proofs.reports_tell_clients.Goals as goal

pub returns : goal.returns
returns c = record {
  report = report_tells;
  beginning = beginning_tells;
  checkpoint = checkpoint_tells;
  files = files_tell_clients;
}
