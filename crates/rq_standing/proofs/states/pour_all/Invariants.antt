use Rattle.std.proofs.Common.{◌≡◌, length}
use Rattle.rq_model.specs.States.{State}
use Rattle.rq_queue.specs.Pouring.{HasPoured}
use Rattle.rq_standing.specs.Parts.{ArePartsOf}
use Rattle.rq_standing.proofs.states.pour_all.Given as goal

abbrev pub invariant-loop-part : goal.invariant-loop-part
invariant-loop-part l = (t : State) → length l.parts ≡ length t.definitions → ArePartsOf t l.parts
    → HasPoured t l.part-index l.fn.fields l.poured
