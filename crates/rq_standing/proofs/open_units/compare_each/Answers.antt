use Rattle.std.proofs.Common.{ℕ, List, sym, ap, ◌∙◌}
use Rattle.std.specs.Int.{w64, to_be_bytes}
use Rattle.std.specs.List.{flat_map}
use Rattle.std.specs.Map.Iter.{deref}
use Rattle.std.proofs.lemmas.Map.Iter.{rest_more, rest_all}
use Rattle.rq_state.specs.Comparing.{left_after}
use Rattle.rq_state.proofs.Behind.{one_more, all_differ, behind_nothing}
use Rattle.rq_standing.proofs.open_units.compare_each.Goals as goal

pub loop-unit-preserved : goal.loop-unit-preserved
loop-unit-preserved c =
    let left = c.next.new.self in
    one_more (to_be_bytes w64) c.in-Some.unit.now left c.loop-unit.bytes c.u64.new.self c.u64.ensures
    ∙ (ap (λ (us : List ℕ). left_after (flat_map (to_be_bytes w64) us) c.loop-unit.bytes)
    (sym (rest_more deref c.loop-unit.unit-iterator left c.next.result c.in-Some.unit c.in-Some.is
    c.next.ensures.steps))
    ∙ c.loop-unit.invariant)

pub returns-then-not-agree-clause-compared : goal.returns-then-not-agree-clause-compared
returns-then-not-agree-clause-compared c =
    all_differ (flat_map (to_be_bytes w64) c.loop-unit.unit-iterator) c.loop-unit.bytes _
    (sym c.agree.ensures ∙ c.if-not-agree.true) c.loop-unit.invariant

pub returns-clause-compared : goal.returns-clause-compared
returns-clause-compared c = sym (behind_nothing c.loop-unit.bytes)
    ∙ (ap (λ (us : List ℕ). left_after (flat_map (to_be_bytes w64) us) c.loop-unit.bytes)
    (sym (rest_all deref c.loop-unit.unit-iterator c.next.new.self c.next.result c.in-None.is c.next.ensures.steps))
    ∙ c.loop-unit.invariant)
