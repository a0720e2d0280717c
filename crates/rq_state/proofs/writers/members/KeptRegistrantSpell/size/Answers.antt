use Rattle.std.proofs.Common.{◌∙◌, arith, length}
use Rattle.rq_model.specs.StateSpelling.{registrant_bytes}
use Rattle.rq_state.proofs.writers.members.KeptRegistrantSpell.size.Goals as goal

pub returns-clause-size : goal.returns-clause-size
returns-clause-size c = c.registrant_size.ensures c.args.self.now.queue
    ∙ (λ i. length (registrant_bytes (record {
      queue = c.args.self.now.queue;
      name = c.name.ensures i;
      last = c.last.ensures i;
    })))

pub returns-clause-some : goal.returns-clause-some
returns-clause-some c = omega (arith, c.registrant_size.ensures c.args.self.now.queue)
