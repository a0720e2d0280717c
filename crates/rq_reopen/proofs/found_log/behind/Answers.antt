use Rattle.std.proofs.Common.{List, ℕ, subst, sym}
use Rattle.rq_model.specs.States.{State}
use Rattle.rq_model.specs.Carrying.{carried_at}
use Rattle.rq_restart.specs.RedoneFronts.{IsRedoneAt, IsRedoneFront}
use Rattle.rq_reopen.specs.Openings.{front_with}
use Rattle.rq_reopen.proofs.found_log.behind.Goals as goal

pub returns-clause-found : goal.returns-clause-found
returns-clause-found c = λ b is.
    let f = c.args.front.now in
    c.found_of.ensures.found b
    (subst (λ (s : State). IsRedoneFront b (front_with f.version s f.last f.end)) (sym c.in_ok-machine.ensures.made) is)

pub returns-clause-from : goal.returns-clause-from
returns-clause-from c = λ b is.
    let f = c.args.front.now in
    c.found_of.ensures.from b
    (subst (λ (s : State). IsRedoneAt b carried_at (front_with f.version s f.last f.end))
    (sym c.in_ok-machine.ensures.made) is)
