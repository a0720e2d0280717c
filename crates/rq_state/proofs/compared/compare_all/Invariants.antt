use Rattle.std.proofs.Common.{◌≡◌, drop}
use Rattle.std.specs.List.{flat_map}
use Rattle.rq_state.specs.Comparing.{left_after}
use Rattle.rq_state.proofs.compared.compare_all.Given as goal

abbrev pub invariant-loop-member : goal.invariant-loop-member
invariant-loop-member g l = left_after (flat_map g.M.Compare.spelling (drop l.member-index l.members)) l.bytes
    ≡ left_after (flat_map g.M.Compare.spelling l.members) l.fn.bytes
