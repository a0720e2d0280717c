use Rattle.rq_state.proofs.Loop.{goes_on, is_done}
use Rattle.rq_state.proofs.readers.lists.take_members.Goals as goal

pub loop-preserved : goal.loop-preserved
loop-preserved g c = goes_on _ _ _ c.loop.invariant c.loop-test.true c.in_ok-member.ensures c.in_ok-push.ensures.items

pub returns : goal.returns
returns g c = is_done c.loop.invariant c.loop-test.false
