use Rattle.std.proofs.Common.{◌≡◌, take, map}
use Rattle.rq_exchange.proofs.links.errors_of.Given as goal

abbrev pub invariant-loop-definition : goal.invariant-loop-definition
invariant-loop-definition l = l.errors.items ≡ map (λ d. d.error) (take l.definition-index l.definitions)
