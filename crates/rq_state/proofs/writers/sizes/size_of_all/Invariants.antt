use Rattle.std.proofs.Common.{◌≡◌, ◌≤◌, ◌*◌, length, take}
use Rattle.std.specs.List.{flat_map}
use Rattle.rq_state.proofs.writers.sizes.size_of_all.Given as goal

abbrev pub invariant-loop-member : goal.invariant-loop-member
invariant-loop-member g l = (l.total ≡ length (flat_map g.M.Spell.spelling (take l.member-index l.members)))
    × (l.total ≤ 4294967295 * l.member-index) × (l.member-index ≤ l.total)
