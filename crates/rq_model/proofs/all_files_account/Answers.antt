use Rattle.rq_model.proofs.FilesTogether.{begun_file_carries_on, files_are_one_run, files_account, closed_files_account, files_report_accounts}
use Rattle.rq_model.proofs.all_files_account.Goals as goal

pub returns : goal.returns
returns c = record {
  begun = begun_file_carries_on;
  one = files_are_one_run;
  restart = files_account;
  closed = closed_files_account;
  report = files_report_accounts;
}
