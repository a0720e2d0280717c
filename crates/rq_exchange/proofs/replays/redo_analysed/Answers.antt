use Rattle.std.proofs.Common.{map}
use Rattle.rq_exchange.proofs.Words.{length-map, record_of}
use Rattle.rq_exchange.proofs.replays.redo_analysed.Goals as goal

pub redo_agenda-requires-clause-agenda : goal.redo_agenda-requires-clause-agenda
redo_agenda-requires-clause-agenda g c κs within =
    c.in_ok-agenda.ensures.agenda (map record_of c.args.records.now) (length-map c.args.records.now record_of)
    c.requires.lawful c.requires.analysis
