use Rattle.std.proofs.Common.{arith}
use Rattle.std.proofs.lemmas.List.{map_push}
use Rattle.rq_state.specs.Views.{unit_of}
use Rattle.rq_state.proofs.Loop.{goes_on, is_done}
use Rattle.rq_state.proofs.readers.lists.take_units.Goals as goal

pub loop-preserved : goal.loop-preserved
loop-preserved c = goes_on (unit_of c.in_ok-member.member) _ _ c.loop.invariant c.loop-test.true (grind arith)
    (rw c.in_ok-push.ensures.items (map_push _ _ _))

pub returns : goal.returns
returns c = is_done c.loop.invariant c.loop-test.false
