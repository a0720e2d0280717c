use Rattle.std.proofs.Common.{◌≡◌, ◌≤◌, ◌++◌, length, drop, reverse}
use Rattle.rq_model.specs.Redo.{GoesWell}
use Rattle.rq_model.specs.Redo as redo_words
use Rattle.rq_queue.specs.Case.{AreRising}
use Rattle.rq_queue.proofs.queue_redo.redo_in_order.Given as goal

abbrev pub decreases-loop-arrival : goal.decreases-loop-arrival
decreases-loop-arrival l = length l.arrivals.items

abbrev pub invariant-loop-arrival : goal.invariant-loop-arrival
invariant-loop-arrival l = record {
  bound : l.done ≤ length l.ops;
  rising : AreRising (reverse l.arrivals.items);
  well : GoesWell l.part (drop l.done l.ops) (reverse l.arrivals.items);
  redone : redo_words.redone l.fn.part l.ops l.fn.arrivals.items
      ≡ redo_words.redone l.part (drop l.done l.ops) (reverse l.arrivals.items);
  sent : l.fn.sent.items ++ redo_words.all_sent l.fn.part l.ops l.fn.arrivals.items
      ≡ l.sent.items ++ redo_words.all_sent l.part (drop l.done l.ops) (reverse l.arrivals.items);
}
