use Rattle.std.proofs.Common.{◌<◌, ◌≤◌, ◌∙◌, arith, ap, sym, subst, length, List}
use Rattle.std.specs.List.{flat_map}
use Rattle.rq_model.specs.States.{Element}
use Rattle.rq_model.specs.StateSpelling.{counted, element_bytes}
use Rattle.rq_state.specs.Comparing.{left_after}
use Rattle.rq_state.proofs.Behind.{counted_follow, still_differ}
use Rattle.rq_standing.proofs.queues.Queues.compare_elements.Goals as goal

pub returns-then-not-agree-clause-compared : goal.returns-then-not-agree-clause-compared
returns-then-not-agree-clause-compared c = λ t holds.
    still_differ (counted element_bytes t.elements) c.args.bytes.now (sym c.agree.ensures ∙ c.if-not-agree.true)

pub member_count-requires : goal.member_count-requires
member_count-requires c =
    let t = c.requires.few.0 in
    let holds = c.requires.few.1 in
    omega (
      arith,
      c.len.ensures,
      c.in_ok-elements.elements.ok.0,
      ap (λ (es : List Element). length es) (c.in_ok-elements.ensures.lent t holds),
      c.requires.few.2,
    )

pub returns-clause-compared : goal.returns-clause-compared
returns-clause-compared c = λ t holds.
    let all = c.in_ok-elements.ensures.lent t holds in
    counted_follow element_bytes t.elements c.len.result c.args.bytes.now c.member_count.new.self c.compare_all.new.bytes
    (omega (arith, c.len.ensures, c.in_ok-elements.elements.ok.0, ap (λ (es : List Element). length es) all))
    c.member_count.ensures
    (c.compare_all.ensures ∙ ap (λ (es : List Element). left_after (flat_map element_bytes es) c.member_count.new.self)
    (c.deref.ensures.value ∙ all))
