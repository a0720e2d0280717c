use Rattle.std.proofs.Common.{◌≡◌, take}
use Rattle.std.specs.List.{flat_map}
use Rattle.rq_model.specs.Queues.{Part}
use Rattle.rq_standing.proofs.lent_members.lent_registrants.Given as goal

abbrev pub invariant-loop-part : goal.invariant-loop-part
invariant-loop-part l = l.lent.items ≡ flat_map (λ (p : Part). p.registrants) (take l.part-index l.parts)
