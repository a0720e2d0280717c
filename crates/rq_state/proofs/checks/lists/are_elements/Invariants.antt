use Rattle.std.proofs.Common.{◌≡◌, drop}
use Rattle.std.specs.List.{list_all}
use Rattle.rq_state.specs.Inside.{state_of}
use Rattle.rq_state.specs.Tests.{element_test}
use Rattle.rq_state.proofs.checks.lists.are_elements.Given as goal

abbrev pub invariant-loop-element : goal.invariant-loop-element
invariant-loop-element l = list_all (element_test (state_of l.fields)) (drop l.element-index l.fields.elements.items)
    ≡ list_all (element_test (state_of l.fields)) l.fields.elements.items
