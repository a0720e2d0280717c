use Rattle.std.proofs.Common.{◌≡◌, map}
use Rattle.std.specs.List.{flat_map}
use Rattle.rq_model.specs.StateSpelling.{registrant_bytes}
use Rattle.rq_queue.specs.Roll.{registrant_of}
use Rattle.rq_state.specs.Comparing.{left_after}
use Rattle.rq_queue.proofs.registrants.compare_each.Given as goal

abbrev pub invariant-loop-name : goal.invariant-loop-name
invariant-loop-name l = left_after (flat_map registrant_bytes (map (registrant_of l.queue.0) l.name-iterator)) l.bytes
    ≡ left_after (flat_map registrant_bytes (map (registrant_of l.queue.0) l.lasts.entries)) l.fn.bytes
