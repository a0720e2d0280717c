use Rattle.std.proofs.Common.{sym}
use Rattle.rq_state.proofs.Measured.{units_measured}
use Rattle.rq_state.proofs.writers.sizes.units_size.Goals as goal

pub returns-clause-size : goal.returns-clause-size
returns-clause-size c = sym (units_measured _)
