use Rattle.std.proofs.Common.{◌≡◌, ℕ, ◌||◌, false, map, take}
use Rattle.std.specs.Prelude.{◌==◌}
use Rattle.std.specs.List.{list_any}
use Rattle.rq_state.specs.Views.{unit_of}
use Rattle.rq_standing.specs.Units.{has_open}
use Rattle.rq_standing.proofs.states.open_units_of.Given as goal

abbrev pub invariant-loop-unit : goal.invariant-loop-unit
invariant-loop-unit l = (u : ℕ) → has_open l.units u
    ≡ (list_any (λ v. v == u) (map unit_of (take l.unit-index l.all)) || false)
