use Rattle.std.proofs.Common.{◌≡◌, map, filter, take}
use Rattle.rq_state.specs.Views.{unit_of}
use Rattle.rq_catalog.specs.Units.{is_open_in, numbers, outcome_at}
use Rattle.rq_catalog.proofs.units.Units.open_units.Given as goal

abbrev pub invariant-loop-unit : goal.invariant-loop-unit
invariant-loop-unit l = map unit_of l.units.items
    ≡ filter (λ u. is_open_in (outcome_at l.self u)) (take l.unit-index (numbers l.self))
