use Rattle.std.proofs.Common.{◌≡◌, ◌==◌}
use Rattle.std.specs.List.{list_any}
use Rattle.std.specs.Map.{values_of}
use Rattle.rq_model.specs.States.{Element}
use Rattle.rq_queue.proofs.searches.has_id.Given as goal

abbrev pub invariant-loop-e : goal.invariant-loop-e
invariant-loop-e l = list_any (λ (e : Element). e.id == l.id.0) l.e-iterator
    ≡ list_any (λ (e : Element). e.id == l.id.0) (values_of l.free.entries)
