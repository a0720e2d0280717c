use Rattle.std.proofs.Common.{◌≡◌, drop}
use Rattle.rq_state.specs.Tests.{definitions_test}
use Rattle.rq_state.proofs.checks.lists.are_definitions.Given as goal

abbrev pub invariant-loop-number : goal.invariant-loop-number
invariant-loop-number l = definitions_test l.number (drop l.number l.definitions) ≡ definitions_test 0 l.definitions
