use Rattle.std.proofs.Common.{◌≡◌, ℕ, take}
use Rattle.std.specs.Prelude.{◌==◌}
use Rattle.std.specs.BTreeSet as ordered
use Rattle.std.specs.List.{list_any}
use Rattle.std.specs.List.Sorted.{IsPermutation}
use Rattle.std.specs.Ordering.{nat_cmp}
use Rattle.rq_model.specs.States.{State}
use Rattle.rq_standing.specs.Ends.{marked_where}
use Rattle.rq_standing.specs.Stands.{HoldsState}
use Rattle.rq_standing.proofs.queues.Queues.lent_of.Given as goal

abbrev pub invariant-loop-queue : goal.invariant-loop-queue
invariant-loop-queue l = record {
  lent : (s : State) → HoldsState l.self s
      → IsPermutation (marked_where l.unit.0 (ordered.contains nat_cmp l.seen) s.elements) l.lent.items;
  seen : (q : ℕ) → ordered.contains nat_cmp l.seen q ≡ list_any (λ v. v == q) (take l.queue-index l.queues);
}
