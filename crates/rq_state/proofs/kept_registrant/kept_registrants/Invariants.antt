use Rattle.std.proofs.Common.{◌≡◌, take}
use Rattle.rq_state.proofs.kept_registrant.kept_registrants.Given as goal

abbrev pub invariant-loop-r : goal.invariant-loop-r
invariant-loop-r l = l.kept.items ≡ take l.r-index l.registrants
