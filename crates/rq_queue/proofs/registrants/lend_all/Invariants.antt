use Rattle.std.proofs.Common.{◌≡◌, ◌++◌, map}
use Rattle.rq_queue.specs.Roll.{registrant_of}
use Rattle.rq_queue.proofs.registrants.lend_all.Given as goal

abbrev pub invariant-loop-name : goal.invariant-loop-name
invariant-loop-name l = l.lent.items ++ map (registrant_of l.queue.0) l.name-iterator
    ≡ l.fn.lent.items ++ map (registrant_of l.queue.0) l.lasts.entries
