use Rattle.std.proofs.Common.{◌≡◌, ℕ, map, take}
use Rattle.std.specs.Prelude.{◌==◌}
use Rattle.std.specs.List.{list_any}
use Rattle.std.specs.Ordering.{nat_cmp}
use Rattle.std.specs.BTreeSet as ordered
use Rattle.rq_state.specs.Views.{unit_of}
use Rattle.rq_catalog.proofs.start.open_units_of.Given as goal

abbrev pub invariant-loop-unit : goal.invariant-loop-unit
invariant-loop-unit l = (u : ℕ) → ordered.contains nat_cmp l.set u
    ≡ list_any (λ v. v == u) (map unit_of (take l.unit-index l.units))
