use Rattle.std.proofs.Common.{length, ◌≡◌, take}
use Rattle.rq_model.specs.Records.{Commit}
use Rattle.rq_standing.specs.Parts.{Ended}
use Rattle.rq_standing.proofs.parts.commit_all.Given as goal

abbrev pub invariant-loop-queue : goal.invariant-loop-queue
invariant-loop-queue l =
    (length l.parts.items ≡ length l.fn.parts.items)
    × Ended 0 (Commit l.unit.0) (take l.queue-index l.queues) l.fn.parts.items l.parts.items
