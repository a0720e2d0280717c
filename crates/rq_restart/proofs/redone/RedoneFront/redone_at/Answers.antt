use Rattle.rq_restart.proofs.RedoneFronts.{redoes_at}
use Rattle.rq_restart.proofs.redone.RedoneFront.redone_at.Goals as goal

pub state_behind-requires-clause-front : goal.state_behind-requires-clause-front
state_behind-requires-clause-front g c κs within = (c.args.offset, c.in_ok-from.ensures.found)

pub returns : goal.returns
returns g c =
    redoes_at c.args.bytes.now c.args.offset c.in_ok-from.from c.in_ok-from.ensures c.state_behind.result
    c.state_behind.ensures.behind c.state_behind.ensures.refused
