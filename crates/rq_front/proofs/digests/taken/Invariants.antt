use Rattle.std.proofs.Common.{List, ◌++◌, take, map}
use Rattle.std.specs.List.{filter}
use Rattle.rq_lanes.specs.Messages.{AccountsFor}
use Rattle.rq_lanes.specs.declared.lanes.Message.{Message}
use Rattle.rq_front.specs.Walks.{has_turn, message_of}
use Rattle.rq_front.proofs.digests.taken.Given as goal

abbrev pub invariant-frames : goal.invariant-frames
invariant-frames l = (ms : List Message) → AccountsFor l.bytes l.fn.given ms
    → AccountsFor l.bytes l.lanes (ms ++ map message_of (filter (has_turn l.turn) (take l.i l.spans)))
