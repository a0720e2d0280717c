use Rattle.std.proofs.Common.{◌≡◌, take}
use Rattle.rq_state.proofs.kept_element.all_of.Given as goal

abbrev pub invariant-loop-e : goal.invariant-loop-e
invariant-loop-e g l = l.all.items ≡ take l.e-index l.elements
