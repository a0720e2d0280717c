use Rattle.std.proofs.Common.{◌≡◌, ◌++◌, map}
use Rattle.std.specs.BTreeMap.{keys}
use Rattle.rq_state.specs.Views.{unit_of}
use Rattle.rq_standing.proofs.open_units.OpenUnits.numbers.Given as goal

abbrev pub invariant-loop-unit : goal.invariant-loop-unit
invariant-loop-unit l = map unit_of l.units.items ++ l.unit-iterator ≡ keys l.self.named
