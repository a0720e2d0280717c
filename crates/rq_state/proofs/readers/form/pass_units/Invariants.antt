use Rattle.std.proofs.Common.{◌-◌}
use Rattle.rq_bytes.specs.Readers.{number, members}
use Rattle.rq_state.specs.Reading.{passed}
use Rattle.rq_state.proofs.Passing.{Passing}
use Rattle.rq_state.proofs.readers.form.pass_units.Given as goal

abbrev pub invariant-loop : goal.invariant-loop
invariant-loop l = Passing (number 8) (l.count - l.counter) l.bytes (passed (members (number 8) l.count) l.fn.bytes)
