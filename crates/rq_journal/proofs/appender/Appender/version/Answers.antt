use Rattle.rq_model.specs.Machine.{run}
use Rattle.rq_journal.proofs.appender.Appender.version.Goals as goal

pub returns : goal.returns
returns c at rs h = c.version.ensures at.version (run at.state rs) h.judge
