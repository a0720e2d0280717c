use Rattle.std.proofs.Common.{◌≡◌, ◌≤◌, ◌++◌, length, map}
use Rattle.std.specs.Map.{values_of}
use Rattle.rq_queue.proofs.searches.free_lent.Given as goal

abbrev pub invariant-loop-e : goal.invariant-loop-e
invariant-loop-e l =
    (map (λ e. e.now) l.lent.items ++ l.e-iterator ≡ values_of l.free.entries) × (length l.lent.items ≤ l.fn.count)
