use Rattle.std.proofs.Common.{◌∙◌, length, ap, arith}
use Rattle.rq_model.specs.States.{Registrant}
use Rattle.rq_model.specs.StateSpelling.{registrant_bytes}
use Rattle.rq_queue.specs.Roll.{registrant_of}
use Rattle.rq_queue.proofs.lent_registrant.LentRegistrantSpell.size.Goals as goal

pub returns-clause-size : goal.returns-clause-size
returns-clause-size c =
    let r = c.self.inside in
    c.registrant_size.ensures r.queue.0
    ∙ (λ i. length (registrant_bytes (registrant_of r.queue.0 (r.name.now, c.lent.ensures i))))
    ∙ ap (λ (s : Registrant). length (registrant_bytes s)) c.self.view_is

pub returns-clause-some : goal.returns-clause-some
returns-clause-some c = omega (arith, c.registrant_size.ensures 0)
