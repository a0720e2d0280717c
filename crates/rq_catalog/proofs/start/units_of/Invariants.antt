use Rattle.std.proofs.Common.{◌≡◌, ℕ, Some, None, false, map, take, if◌then◌else◌}
use Rattle.std.specs.Prelude.{◌==◌}
use Rattle.std.specs.List.{list_any}
use Rattle.rq_state.specs.Views.{unit_of}
use Rattle.rq_catalog.specs.declared.units.Outcome.TheVariants.{Open}
use Rattle.rq_catalog.specs.Units.{numbers, outcome_at, engages_at}
use Rattle.rq_catalog.proofs.start.units_of.Given as goal

abbrev pub invariant-loop-unit : goal.invariant-loop-unit
invariant-loop-unit l =
    (numbers l.begun ≡ map unit_of (take l.unit-index l.units))
    × ((u : ℕ) → outcome_at l.begun u
    ≡ (if list_any (λ v. v == u) (map unit_of (take l.unit-index l.units)) then Some Open else None))
    × ((u q : ℕ) → engages_at l.begun u q ≡ false)
