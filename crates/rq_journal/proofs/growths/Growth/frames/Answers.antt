use Rattle.std.proofs.Common.{sym, subst}
use Rattle.rq_journal.specs.Growths.{AreWrittenBehind, AreWrittenFrom}
use Rattle.rq_journal.proofs.Growing.{written_behind, written_from}
use Rattle.rq_journal.proofs.growths.Growth.frames.Goals as goal

pub returns-clause-whole : goal.returns-clause-whole
returns-clause-whole c b xs h =
    subst (AreWrittenBehind b xs) (sym c.deref.ensures.value)
    (written_behind b xs c.args.self.now c.appended_logs.ensures.crash c.appended_logs.ensures.front h)

pub returns-clause-from : goal.returns-clause-from
returns-clause-from c b offset xs h =
    subst (AreWrittenFrom b offset xs) (sym c.deref.ensures.value)
    (written_from b offset xs c.args.self.now c.appended_logs.ensures.frames h)
