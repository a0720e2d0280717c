use Rattle.std.proofs.Common.{◌∙◌, ap}
use Rattle.rq_model.specs.States.{State}
use Rattle.rq_live.proofs.manager.Manager.definitions.Goals as goal

pub returns-clause-definitions : goal.returns-clause-definitions
returns-clause-definitions g c = λ from rs m.
    c.definitions.ensures ∙ ap (λ (s : State). s.definitions) m.at.state
