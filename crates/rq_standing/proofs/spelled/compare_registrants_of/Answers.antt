use Rattle.std.proofs.Common.{arith, sym, ◌∙◌, drop}
use Rattle.std.specs.List.{flat_map}
use Rattle.rq_model.specs.Queues.{Part}
use Rattle.rq_model.specs.StateSpelling.{registrant_bytes}
use Rattle.rq_state.proofs.Behind.{next_compared, all_differ, all_compared}
use Rattle.rq_standing.proofs.spelled.compare_registrants_of.Goals as goal

pub loop-part-preserved : goal.loop-part-preserved
loop-part-preserved c = next_compared (λ (p : Part). flat_map registrant_bytes p.registrants) c.args.parts.now _
    c.loop-part.part-index c.part-item.result c.loop-part.bytes c.compare_registrants.new.bytes
    (omega (arith, c.loop-part-test.true)) c.part-item.is c.compare_registrants.ensures c.loop-part.invariant

pub returns-then-not-agree : goal.returns-then-not-agree
returns-then-not-agree c = all_differ
    (flat_map (λ (p : Part). flat_map registrant_bytes p.registrants) (drop c.loop-part.part-index c.args.parts.now))
    c.loop-part.bytes _ (sym c.agree.ensures ∙ c.if-not-agree.true) c.loop-part.invariant

pub returns : goal.returns
returns c = all_compared (λ (p : Part). flat_map registrant_bytes p.registrants) c.args.parts.now _
    c.loop-part.part-index c.loop-part.bytes (omega (arith, c.loop-part-test.false)) c.loop-part.invariant
