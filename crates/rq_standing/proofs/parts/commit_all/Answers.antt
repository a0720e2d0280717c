use Rattle.std.proofs.Common.{arith, ◌∙◌}
use Rattle.rq_model.specs.Records.{Commit}
use Rattle.rq_standing.proofs.UnitEnds.{end_next}
use Rattle.rq_standing.proofs.parts.commit_all.Goals as goal

pub loop-queue-preserved : goal.loop-queue-preserved
loop-queue-preserved c = (
  c.in_ok-commit_on.ensures.size ∙ c.loop-queue.invariant.0,
  end_next 0 (Commit c.args.unit.0) (c.step_by_parts.ensures.ends.commits_once c.args.unit.0) _ 0 _ _ _ _
      (omega (arith, c.loop-queue-test.true)) c.loop-queue.invariant.0 c.loop-queue.invariant.1
      c.in_ok-commit_on.ensures.committed,
)
