use Rattle.rq_restart.proofs.RedoneFronts.{restarts}
use Rattle.rq_restart.proofs.restarts.restart_of.Goals as goal

pub finish-requires-clause-front : goal.finish-requires-clause-front
finish-requires-clause-front g c κs within = (c.args.bytes.now, 40, c.in_ok-from.ensures.found, c.len-total.ensures)

pub returns : goal.returns
returns g c =
    restarts c.args.bytes.now c.in_ok-from.from c.in_ok-from.ensures c.len-total.result c.len-total.ensures c.finish.result
    c.finish.ensures.answer c.finish.ensures.refused
