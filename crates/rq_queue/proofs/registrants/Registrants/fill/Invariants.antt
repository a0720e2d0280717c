use Rattle.std.proofs.Common.{◌≡◌, map}
use Rattle.rq_queue.specs.Roll.{entry_of, picked}
use Rattle.rq_queue.proofs.Registered.{is_taken}
use Rattle.rq_queue.proofs.registrants.Registrants.fill.Given as goal

abbrev pub invariant-loop-at : goal.invariant-loop-at
invariant-loop-at l = l.self ≡ picked (is_taken l.early l.at) (map entry_of l.own)
