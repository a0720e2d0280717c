use Rattle.std.proofs.Common.{List}
use Rattle.rq_lanes.specs.Messages.{AccountsFor}
use Rattle.rq_lanes.specs.declared.lanes.Message.{Message}
use Rattle.rq_lanes.proofs.lanes.Lanes.finish.Given as goal

abbrev pub invariant-rounds : goal.invariant-rounds
invariant-rounds g l = (ms : List Message) → AccountsFor l.bytes l.fn.self ms → AccountsFor l.bytes l.lanes ms
