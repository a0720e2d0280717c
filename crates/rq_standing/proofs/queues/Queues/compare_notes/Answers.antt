use Rattle.std.proofs.Common.{◌<◌, ◌≤◌, ◌∙◌, arith, ap, sym, subst, length, List}
use Rattle.std.specs.List.{flat_map}
use Rattle.rq_model.specs.States.{Note}
use Rattle.rq_model.specs.StateSpelling.{counted, note_bytes}
use Rattle.rq_state.specs.Comparing.{left_after}
use Rattle.rq_state.proofs.Behind.{counted_follow, still_differ}
use Rattle.rq_standing.proofs.queues.Queues.compare_notes.Goals as goal

pub returns-then-not-agree-clause-compared : goal.returns-then-not-agree-clause-compared
returns-then-not-agree-clause-compared c = λ t holds.
    still_differ (counted note_bytes t.notes) c.args.bytes.now (sym c.agree.ensures ∙ c.if-not-agree.true)

pub member_count-requires : goal.member_count-requires
member_count-requires c =
    let t = c.requires.few.0 in
    let holds = c.requires.few.1 in
    omega (
      arith,
      c.len.ensures,
      c.in_ok-notes.notes.ok.0,
      ap (λ (ns : List Note). length ns) (c.in_ok-notes.ensures.lent t holds),
      c.requires.few.2,
    )

pub returns-clause-compared : goal.returns-clause-compared
returns-clause-compared c = λ t holds.
    let all = c.in_ok-notes.ensures.lent t holds in
    counted_follow note_bytes t.notes c.len.result c.args.bytes.now c.member_count.new.self c.compare_all.new.bytes
    (omega (arith, c.len.ensures, c.in_ok-notes.notes.ok.0, ap (λ (ns : List Note). length ns) all))
    c.member_count.ensures
    (c.compare_all.ensures ∙ ap (λ (ns : List Note). left_after (flat_map note_bytes ns) c.member_count.new.self)
    (c.deref.ensures.value ∙ all))
