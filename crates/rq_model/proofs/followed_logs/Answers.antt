use Rattle.rq_model.proofs.Along.{along_is_front, window_goes_on}
use Rattle.rq_model.proofs.followed_logs.Goals as goal

pub returns : goal.returns
returns c = record { front = along_is_front; window = window_goes_on }
