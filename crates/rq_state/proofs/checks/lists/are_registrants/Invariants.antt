use Rattle.std.proofs.Common.{◌≡◌, drop}
use Rattle.std.specs.List.{list_all}
use Rattle.rq_state.specs.Inside.{state_of}
use Rattle.rq_state.specs.Tests.{registrant_test}
use Rattle.rq_state.proofs.checks.lists.are_registrants.Given as goal

abbrev pub invariant-loop-registrant : goal.invariant-loop-registrant
invariant-loop-registrant l = list_all (registrant_test (state_of l.fields))
    (drop l.registrant-index l.fields.registrants.items)
    ≡ list_all (registrant_test (state_of l.fields)) l.fields.registrants.items
