use Rattle.std.proofs.Common.{◌≡◌, drop}
use Rattle.std.specs.List.{flat_map}
use Rattle.rq_model.specs.Queues.{Part}
use Rattle.rq_model.specs.StateSpelling.{registrant_bytes}
use Rattle.rq_state.specs.Comparing.{left_after}
use Rattle.rq_standing.proofs.spelled.compare_registrants_of.Given as goal

abbrev pub invariant-loop-part : goal.invariant-loop-part
invariant-loop-part l =
    left_after (flat_map (λ (p : Part). flat_map registrant_bytes p.registrants) (drop l.part-index l.parts)) l.bytes
    ≡ left_after (flat_map (λ (p : Part). flat_map registrant_bytes p.registrants) l.parts) l.fn.bytes
