use Rattle.std.proofs.Common.{◌≡◌, map, drop}
use Rattle.rq_model.specs.Machine as machine
use Rattle.rq_queue.specs.Roll.{registrant_of}
use Rattle.rq_queue.proofs.registrants.Registrants.hear.Given as goal

abbrev pub invariant-loop-n : goal.invariant-loop-n
invariant-loop-n l = map (machine.told l.unit.0 (drop l.n-index l.notes)) (map (registrant_of l.queue.0) l.self)
    ≡ map (machine.told l.unit.0 l.notes) (map (registrant_of l.queue.0) l.fn.self)
