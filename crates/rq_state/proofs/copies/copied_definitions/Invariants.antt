use Rattle.std.proofs.Common.{◌≡◌, take}
use Rattle.rq_state.proofs.copies.copied_definitions.Given as goal

abbrev pub invariant-loop-definition : goal.invariant-loop-definition
invariant-loop-definition l = l.copies.items ≡ take l.definition-index l.definitions
