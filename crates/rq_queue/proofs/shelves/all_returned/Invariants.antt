use Rattle.std.proofs.Common.{◌≡◌, ◌++◌, List, filter}
use Rattle.rq_model.specs.States.{Element}
use Rattle.rq_model.specs.Machine.{leaves}
use Rattle.rq_queue.specs.Kept.{Frees, staying}
use Rattle.rq_queue.proofs.shelves.all_returned.Given as goal

abbrev pub invariant-loop-e : goal.invariant-loop-e
invariant-loop-e l = record {
  freed : (rest others : List Element) → l.fn.list.items ≡ l.yielded ++ rest
      → Frees others l.fn.free.entries (staying l.home l.unit.0 l.fn.list.items) l.free.entries
      (staying l.home l.unit.0 rest);
  leaving : l.leaving.items ≡ filter (leaves l.home l.unit.0) l.yielded;
}
