use Rattle.std.proofs.Common.{List, sym, ap, ◌∙◌, map}
use Rattle.std.specs.List.{flat_map}
use Rattle.std.specs.Map.Iter.{deref_pair}
use Rattle.std.proofs.lemmas.Map.Iter.{rest_more, rest_all}
use Rattle.rq_model.specs.StateSpelling.{registrant_bytes}
use Rattle.rq_state.specs.Comparing.{left_after}
use Rattle.rq_state.proofs.Behind.{one_more, all_differ, behind_nothing}
use Rattle.rq_queue.specs.Roll.{RollEntry, registrant_of}
use Rattle.rq_queue.proofs.registrants.compare_each.Goals as goal

pub loop-name-preserved : goal.loop-name-preserved
loop-name-preserved c =
    let left = c.next.new.self in
    let shown = registrant_of c.args.queue.0 in
    one_more registrant_bytes (shown (c.in-Some.name.now, c.in-Some.last.now)) (map shown left)
    c.loop-name.bytes c.compare_one.new.bytes c.compare_one.ensures
    ∙ (ap (λ (es : List RollEntry). left_after (flat_map registrant_bytes (map shown es)) c.loop-name.bytes)
    (sym (rest_more deref_pair c.loop-name.name-iterator left c.next.result
    (c.in-Some.name, c.in-Some.last) c.in-Some.is c.next.ensures.steps))
    ∙ c.loop-name.invariant)

pub returns-then-not-agree : goal.returns-then-not-agree
returns-then-not-agree c =
    all_differ (flat_map registrant_bytes (map (registrant_of c.args.queue.0) c.loop-name.name-iterator))
    c.loop-name.bytes _ (sym c.agree.ensures ∙ c.if-not-agree.true) c.loop-name.invariant

pub returns : goal.returns
returns c = sym (behind_nothing c.loop-name.bytes)
    ∙ (ap (λ (es : List RollEntry). left_after (flat_map registrant_bytes (map (registrant_of c.args.queue.0) es))
    c.loop-name.bytes)
    (sym (rest_all deref_pair c.loop-name.name-iterator c.next.new.self c.next.result c.in-None.is
    c.next.ensures.steps))
    ∙ c.loop-name.invariant)
