use Rattle.std.proofs.Common.{arith}
use Rattle.std.specs.Int.{w32, to_be_bytes}
use Rattle.rq_state.proofs.Grown.{grown}
use Rattle.rq_state.proofs.writers.lists.put_all.Goals as goal

pub loop-member-preserved : goal.loop-member-preserved
loop-member-preserved g c = grown g.M.Spell.spelling _
    (to_be_bytes w32 _) _ _ _ _ _ c.loop-member.invariant c.in_ok-put.ensures (omega arith) c.member-item.is
