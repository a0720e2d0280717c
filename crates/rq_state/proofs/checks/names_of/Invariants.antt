use Rattle.std.proofs.Common.{◌≡◌, map, take}
use Rattle.rq_model.specs.States.{Definition}
use Rattle.rq_state.proofs.checks.names_of.Given as goal

abbrev pub invariant-loop-definition : goal.invariant-loop-definition
invariant-loop-definition l = l.names.items ≡ map (λ (d : Definition). d.name) (take l.definition-index l.definitions)
