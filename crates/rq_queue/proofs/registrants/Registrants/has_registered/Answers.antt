use Rattle.std.proofs.Common.{◌∙◌, sym, ap, map, List}
use Rattle.std.specs.List.{list_any}
use Rattle.rq_model.specs.States.{is_registrant}
use Rattle.rq_queue.specs.Roll.{RollEntry, registrant_of}
use Rattle.rq_queue.proofs.Registered.{any_registrant}
use Rattle.rq_queue.proofs.registrants.Registrants.has_registered.Goals as goal

pub returns : goal.returns
returns c = λ queue. c.contains_key.ensures
    ∙ (sym (any_registrant queue c.args.name.now c.self.inside.lasts.entries)
    ∙ ap (λ (es : List RollEntry). list_any (is_registrant queue c.args.name.now) (map (registrant_of queue) es))
    c.self.view_is)
