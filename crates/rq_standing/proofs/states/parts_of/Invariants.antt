use Rattle.std.proofs.Common.{◌≡◌, ◌<◌, ℕ, length}
use Rattle.rq_model.specs.Queues.{part_of}
use Rattle.rq_standing.specs.Parts.{part_at}
use Rattle.rq_standing.proofs.states.parts_of.Given as goal

abbrev pub invariant-loop-queue : goal.invariant-loop-queue
invariant-loop-queue l = record {
  size : length l.parts.items ≡ l.queue;
  parts : (k : ℕ) → k < length l.parts.items → part_at l.parts.items k ≡ part_of l.state k;
}
