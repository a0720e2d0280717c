use Rattle.std.proofs.Common.{◌≡◌, ◌++◌, length, take, map}
use Rattle.std.specs.Int.{w32, w64, to_be_bytes}
use Rattle.std.specs.List.{flat_map}
use Rattle.rq_state.specs.Views.{unit_of}
use Rattle.rq_state.proofs.writers.lists.put_units.Given as goal

abbrev pub invariant-loop-member : goal.invariant-loop-member
invariant-loop-member l = l.out.items ≡ l.fn.out.items
    ++ (to_be_bytes w32 (length l.members) ++ flat_map (to_be_bytes w64) (map unit_of (take l.member-index l.members)))
