use Rattle.std.proofs.Common.{◌≡◌, ◌≤◌, ◌-◌, ◌++◌, List, length, drop}
use Rattle.std.specs.List.{AllByRecursion}
use Rattle.rq_model.specs.Queues as queues
use Rattle.rq_model.specs.Redo.{GoesWell}
use Rattle.rq_model.specs.Redo as redo_words
use Rattle.rq_queue.proofs.queue_redo.catch_up.Given as goal

abbrev pub decreases-loop-done : goal.decreases-loop-done
decreases-loop-done l = length l.ops - l.done

abbrev pub invariant-loop-done : goal.invariant-loop-done
invariant-loop-done l = record {
  bound : l.done ≤ length l.ops;
  well : (ms : List queues.Move) → AllByRecursion (λ m. l.until ≤ m.place) ms
      → GoesWell l.fn.part (drop l.fn.from l.ops) ms → GoesWell l.part (drop l.done l.ops) ms;
  redone : (ms : List queues.Move) → AllByRecursion (λ m. l.until ≤ m.place) ms
      → redo_words.redone l.fn.part (drop l.fn.from l.ops) ms ≡ redo_words.redone l.part (drop l.done l.ops) ms;
  sent : (ms : List queues.Move) → AllByRecursion (λ m. l.until ≤ m.place) ms
      → l.fn.sent.items ++ redo_words.all_sent l.fn.part (drop l.fn.from l.ops) ms
      ≡ l.sent.items ++ redo_words.all_sent l.part (drop l.done l.ops) ms;
}
