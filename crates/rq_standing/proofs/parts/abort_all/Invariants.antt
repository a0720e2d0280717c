use Rattle.std.proofs.Common.{length, ◌≡◌, take, List}
use Rattle.rq_model.specs.Queues.{Transfer}
use Rattle.rq_model.specs.Records.{Abort}
use Rattle.rq_standing.specs.Parts.{Ended, Send, Sends}
use Rattle.rq_standing.proofs.parts.abort_all.Given as goal

abbrev pub invariant-loop-queue : goal.invariant-loop-queue
invariant-loop-queue l = record {
  size : length l.parts.items ≡ length l.fn.parts.items;
  ended : Ended l.place (Abort l.unit.0) (take l.queue-index l.queues) l.fn.parts.items l.parts.items;
  sends : (ts : List Transfer) → Send l.place l.unit.0 l.fn.parts.items ts
      → Sends (take l.queue-index l.queues) ts l.sent.items;
}
