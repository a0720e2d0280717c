use Rattle.rq_restart.proofs.RedoneFronts.{restarts_at}
use Rattle.rq_restart.proofs.restarts.restart_of_at.Goals as goal

pub finish-requires-clause-front : goal.finish-requires-clause-front
finish-requires-clause-front g c κs within =
    (c.args.bytes.now, c.args.offset, c.in_ok-from.ensures.found, c.len.ensures)

pub returns : goal.returns
returns g c =
    restarts_at c.args.most c.args.bytes.now c.args.offset c.in_ok-from.from c.in_ok-from.ensures c.len.result c.len.ensures
    c.finish.result c.finish.ensures.answer c.finish.ensures.refused
