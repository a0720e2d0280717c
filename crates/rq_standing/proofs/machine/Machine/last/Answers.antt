use Rattle.std.proofs.Common.{◌≤◌, ◌∙◌, sym, ap, subst, length, rules, option_map}
use Rattle.std.specs.List.{find}
use Rattle.rq_model.specs.Queues.{Part}
use Rattle.rq_model.specs.States.{Registrant, is_registrant}
use Rattle.rq_model.specs.WellFormed.{IsWellFormed}
use Rattle.rq_standing.proofs.Looks.{found_at, nobody_found}
use Rattle.rq_standing.proofs.machine.Machine.last.Goals as goal

pub returns-then-queue-len : goal.returns-then-queue-len
returns-then-queue-len c =
    let past : length c.args.self.now.definitions ≤ c.args.queue.0 = search rules in
    sym (ap (option_map (λ (r : Registrant). r.last)) (nobody_found c.args.self.now c.args.queue.0 c.args.name.now
    (subst IsWellFormed c.self.view_is c.self.invariant.holds.well) past))

pub returns : goal.returns
returns c = c.last.ensures
    ∙ (ap (λ (p : Part). option_map (λ (r : Registrant). r.last) (find (is_registrant p.queue c.args.name.now) p.registrants))
    c.part.ensures
    ∙ ap (option_map (λ (r : Registrant). r.last)) (found_at c.args.queue.0 c.args.name.now c.args.self.now.registrants))
