use Rattle.std.proofs.Common.{◌<◌, ◌≤◌, ◌∙◌, List, length, sym, ap, subst, rules}
use Rattle.std.specs.List.{list_any}
use Rattle.rq_model.specs.Queues.{Part}
use Rattle.rq_model.specs.States.{Registrant, is_registrant}
use Rattle.rq_model.proofs.Lists.{each_weaker}
use Rattle.rq_model.proofs.Parts.{any_registrant}
use Rattle.rq_standing.specs.Parts.{part_at}
use Rattle.rq_standing.proofs.Looks.{nobody_at}
use Rattle.rq_standing.proofs.asks.QueuesKnows.is_registered.Goals as goal

pub returns-then-queue-len : goal.returns-then-queue-len
returns-then-queue-len c = λ s holds.
    let past : length s.definitions ≤ c.args.queue.0 = subst (λ n. n ≤ c.args.queue.0) holds.size
    (let l : length c.args.self.now.parts.items ≤ c.args.queue.0 = search rules in l) in
    sym (nobody_at (length s.definitions) c.args.queue.0 c.args.name.now s.registrants past
    (each_weaker _ (λ (r : Registrant). r.queue < length s.definitions) (λ r is. is.queue) s.registrants
    holds.well.registrants))

pub returns : goal.returns
returns c = λ s holds.
    let within : c.args.queue.0 < length s.definitions = subst (λ n. c.args.queue.0 < n) holds.size
    (let l : c.args.queue.0 < length c.args.self.now.parts.items = search rules in l) in
    c.has_registered.ensures
    ∙ (ap (λ (p : Part). list_any (is_registrant p.queue c.args.name.now) p.registrants)
    (c.part_here.ensures
    ∙ (ap (λ (ps : List Part). part_at ps c.args.queue.0) c.deref.ensures.value ∙ holds.parts c.args.queue.0 within))
    ∙ any_registrant c.args.queue.0 c.args.name.now s.registrants)
