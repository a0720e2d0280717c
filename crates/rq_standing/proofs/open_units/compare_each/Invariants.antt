use Rattle.std.proofs.Common.{◌≡◌}
use Rattle.std.specs.BTreeMap.{keys}
use Rattle.std.specs.Int.{w64, to_be_bytes}
use Rattle.std.specs.List.{flat_map}
use Rattle.rq_state.specs.Comparing.{left_after}
use Rattle.rq_standing.proofs.open_units.compare_each.Given as goal

abbrev pub invariant-loop-unit : goal.invariant-loop-unit
invariant-loop-unit l = left_after (flat_map (to_be_bytes w64) l.unit-iterator) l.bytes
    ≡ left_after (flat_map (to_be_bytes w64) (keys l.named)) l.fn.bytes
