use Rattle.rq_record.specs.Views.{record_of}
use Rattle.rq_journal.proofs.Growing.{grows}
use Rattle.rq_journal.proofs.growths.Growth.append.Goals as goal

pub returns-clause-taken : goal.returns-clause-taken
returns-clause-taken c =
    let a = c.args.self.now in
    grows a (record { appender = c.append.new.self; end = a.end; frames = c.append.new.out }) (record_of c.args.next.now)
    c.append.result c.append.ensures.taken
