use Rattle.std.proofs.Common.{◌∙◌, sym, ap, map, List, Some, option_map}
use Rattle.std.specs.List.{find}
use Rattle.rq_model.specs.States.{is_registrant, Registrant}
use Rattle.rq_queue.specs.Roll.{RollEntry, registrant_of}
use Rattle.rq_queue.proofs.Registered.{last_registrant}
use Rattle.rq_queue.proofs.registrants.Registrants.last.Goals as goal

pub returns-in-Some : goal.returns-in-Some
returns-in-Some c = λ queue. ap (λ l. Some l) c.lent.ensures
    ∙ (c.in-Some.ensures.value
    ∙ (sym (last_registrant queue c.args.name.now c.self.inside.lasts.entries)
    ∙ ap (λ (es : List RollEntry). option_map (λ (r : Registrant). r.last)
    (find (is_registrant queue c.args.name.now) (map (registrant_of queue) es))) c.self.view_is))

pub returns-in-None : goal.returns-in-None
returns-in-None c = λ queue. c.in-None.ensures.value
    ∙ (sym (last_registrant queue c.args.name.now c.self.inside.lasts.entries)
    ∙ ap (λ (es : List RollEntry). option_map (λ (r : Registrant). r.last)
    (find (is_registrant queue c.args.name.now) (map (registrant_of queue) es))) c.self.view_is)
