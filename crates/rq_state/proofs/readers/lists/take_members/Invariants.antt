use Rattle.std.proofs.Common.{◌-◌}
use Rattle.rq_bytes.specs.Readers.{members}
use Rattle.rq_state.proofs.Loop.{Taking}
use Rattle.rq_state.proofs.readers.lists.take_members.Given as goal

abbrev pub invariant-loop : goal.invariant-loop
invariant-loop g l = Taking g.M.Member.read l.members.items (l.count - l.counter) l.bytes
    (members g.M.Member.read l.count l.fn.bytes)
