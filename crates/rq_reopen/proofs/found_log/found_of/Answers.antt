use Rattle.std.proofs.Common.{refl, arith}
use Rattle.rq_reopen.specs.Openings.{front_with}
use Rattle.rq_reopen.proofs.Behind.{is_found}
use Rattle.rq_reopen.proofs.Files.{is_found_from}
use Rattle.rq_reopen.proofs.found_log.found_of.Goals as goal

pub returns-clause-found : goal.returns-clause-found
returns-clause-found c = λ b is.
    is_found b (front_with c.args.version c.args.machine c.args.last c.args.end) c.args.machine c.standing.result is refl
    c.standing.ensures.stands

pub returns-clause-from : goal.returns-clause-from
returns-clause-from c = λ b is.
    is_found_from b (front_with c.args.version c.args.machine c.args.last c.args.end) c.args.machine c.standing.result is
    refl c.standing.ensures.stands

pub returns-clause-within : goal.returns-clause-within
returns-clause-within c = (c.standing.ensures.none, omega (arith, c.standing.ensures.len))
