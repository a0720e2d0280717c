use Rattle.rq_model.proofs.CarriedFiles.{is_no_log, reads_as_log}
use Rattle.rq_model.proofs.carried_headers.Goals as goal

pub returns : goal.returns
returns c = record { apart = is_no_log; read = reads_as_log }
