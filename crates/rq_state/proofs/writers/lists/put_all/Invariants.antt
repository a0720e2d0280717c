use Rattle.std.proofs.Common.{◌≡◌, ◌++◌, length, take}
use Rattle.std.specs.Int.{w32, to_be_bytes}
use Rattle.std.specs.List.{flat_map}
use Rattle.rq_state.proofs.writers.lists.put_all.Given as goal

abbrev pub invariant-loop-member : goal.invariant-loop-member
invariant-loop-member g l = l.out.items ≡ l.fn.out.items
    ++ (to_be_bytes w32 (length l.members) ++ flat_map g.M.Spell.spelling (take l.member-index l.members))
