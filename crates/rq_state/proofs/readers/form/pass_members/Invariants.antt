use Rattle.std.proofs.Common.{◌-◌}
use Rattle.rq_bytes.specs.Readers.{members}
use Rattle.rq_state.specs.Reading.{passed}
use Rattle.rq_state.proofs.Passing.{Passing}
use Rattle.rq_state.proofs.readers.form.pass_members.Given as goal

abbrev pub invariant-loop : goal.invariant-loop
invariant-loop g l = Passing g.M.Member.read (l.count - l.counter) l.bytes (passed (members g.M.Member.read l.count) l.fn.bytes)
