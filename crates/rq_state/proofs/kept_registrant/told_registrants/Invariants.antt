use Rattle.std.proofs.Common.{◌≡◌, take}
use Rattle.rq_state.proofs.kept_registrant.told_registrants.Given as goal

abbrev pub invariant-loop-r : goal.invariant-loop-r
invariant-loop-r l = l.registrants.items ≡ take l.r-index l.kept
