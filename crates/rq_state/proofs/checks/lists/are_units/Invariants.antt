use Rattle.std.proofs.Common.{◌≡◌, drop}
use Rattle.std.specs.List.{list_all}
use Rattle.rq_state.specs.Tests.{unit_test}
use Rattle.rq_state.specs.Views.{unit_of}
use Rattle.rq_state.proofs.checks.lists.are_units.Given as goal

abbrev pub invariant-loop-unit : goal.invariant-loop-unit
invariant-loop-unit l = list_all (λ unit. unit_test l.greatest (unit_of unit)) (drop l.unit-index l.units)
    ≡ list_all (λ unit. unit_test l.greatest (unit_of unit)) l.units
