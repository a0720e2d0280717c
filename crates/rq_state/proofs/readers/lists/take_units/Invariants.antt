use Rattle.std.proofs.Common.{◌-◌, map}
use Rattle.rq_bytes.specs.Readers.{number, members}
use Rattle.rq_state.specs.Views.{unit_of}
use Rattle.rq_state.proofs.Loop.{Taking}
use Rattle.rq_state.proofs.readers.lists.take_units.Given as goal

abbrev pub invariant-loop : goal.invariant-loop
invariant-loop l = Taking (number 8) (map unit_of l.members.items) (l.count - l.counter) l.bytes
    (members (number 8) l.count l.fn.bytes)
