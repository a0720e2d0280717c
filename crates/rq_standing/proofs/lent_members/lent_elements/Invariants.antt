use Rattle.std.proofs.Common.{take, IsPermutation}
use Rattle.std.specs.List.{flat_map}
use Rattle.rq_model.specs.Queues.{Part}
use Rattle.rq_standing.proofs.lent_members.lent_elements.Given as goal

abbrev pub invariant-loop-part : goal.invariant-loop-part
invariant-loop-part l =
    IsPermutation (flat_map (λ (p : Part). p.elements) (take l.part-index l.parts)) l.lent.items
