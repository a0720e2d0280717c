use Rattle.rq_model.proofs.Accounts.{restart_accounts, beginning_accounts, closed_accounts, checkpoint_accounts}
use Rattle.rq_model.proofs.restarts_account.Goals as goal

pub returns : goal.returns
returns c = record {
  restart = restart_accounts;
  beginning = beginning_accounts;
  closed = closed_accounts;
  checkpoint = checkpoint_accounts;
}
