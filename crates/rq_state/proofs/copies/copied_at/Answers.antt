use Rattle.std.proofs.Common.{arith, ◌∙◌}
use Rattle.rq_state.proofs.ByIndex.{copied_on, copied_all}
use Rattle.rq_state.proofs.copies.copied_at.Goals as goal

pub loop-index-preserved : goal.loop-index-preserved
loop-index-preserved g c = λ x. copied_on _ _ _ _ _ _ _ (omega arith) c.in_ok-push.ensures.items
    (c.in_ok-again.ensures.same ∙ c.member_at-member.ensures x) (c.loop-index.invariant x)

pub returns-clause-copied : goal.returns-clause-copied
returns-clause-copied g c = λ x. copied_all _ _ _ _ (omega arith) (c.loop-index.invariant x)
