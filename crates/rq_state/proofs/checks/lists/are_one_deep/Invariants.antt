use Rattle.std.proofs.Common.{◌≡◌, drop}
use Rattle.std.specs.List.{list_all}
use Rattle.rq_state.specs.Tests.{depth_test}
use Rattle.rq_state.proofs.checks.lists.are_one_deep.Given as goal

abbrev pub invariant-loop-definition : goal.invariant-loop-definition
invariant-loop-definition l = list_all (depth_test l.definitions) (drop l.definition-index l.definitions)
    ≡ list_all (depth_test l.definitions) l.definitions
