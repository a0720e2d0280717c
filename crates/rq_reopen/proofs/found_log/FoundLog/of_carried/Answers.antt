use Rattle.rq_reopen.proofs.Files.{found_from, within_from}
use Rattle.rq_reopen.proofs.found_log.FoundLog.of_carried.Goals as goal

pub returns-clause-finds : goal.returns-clause-finds
returns-clause-finds g c =
    found_from c.args.left.now c.in_ok-front.front c.behind.result c.in_ok-front.ensures c.behind.ensures.from
    c.behind.ensures.refused

pub returns-clause-within : goal.returns-clause-within
returns-clause-within g c = within_from c.args.left.now c.behind.result (returns-clause-finds g c)
