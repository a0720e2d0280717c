use Rattle.std.proofs.Common.{ap, arith, sym, ◌≤◌, ◌∙◌}
use Rattle.std.specs.Prelude.{◌&&◌, is_some, length, nat_le}
use Rattle.std.proofs.lemmas.Bool.{and_parts, leb-true}
use Rattle.rq_state.specs.Comparing.{left_after}
use Rattle.rq_model.specs.StateSpelling.{carried_next}
use Rattle.rq_standing.specs.Spelled.{head_of, least_bytes}
use Rattle.rq_standing.proofs.Spellings.{not_spelled, is_spelled}
use Rattle.rq_standing.proofs.queues.Queues.is_spelled_by.Goals as goal

pub compare_lists-requires : goal.compare_lists-requires
compare_lists-requires c =
    let t = c.requires.holds.0 in
    let holds = c.requires.holds.1 in
    let begins = is_some c.compare_head.new.bytes in
    let fits = nat_le (least_bytes t) (length c.args.kept.now) in
    let may = and_parts (nat_le c.args.self.now.next carried_next) (begins && fits)
    (sym (c.may_follow.ensures t holds) ∙ c.if-not-may_follow.false) in
    let short : least_bytes t ≤ length c.args.kept.now =
    leb-true (least_bytes t) (length c.args.kept.now) (and_parts begins fits may.1).1 in
    record { few = (t, holds, omega (arith, short, c.requires.short)) }

pub returns-then-not-may_follow-clause-truth : goal.returns-then-not-may_follow-clause-truth
returns-then-not-may_follow-clause-truth c = λ t holds.
    let x = c.args.self.now in
    not_spelled t c.args.kept.now x.next c.compare_head.new.bytes c.may_follow.result holds.next
    (c.compare_head.ensures t holds ∙ ap (left_after (head_of t)) c.new-bytes.ensures)
    (c.may_follow.ensures t holds)
    c.if-not-may_follow.true

pub returns-clause-truth : goal.returns-clause-truth
returns-clause-truth c = λ t holds.
    let x = c.args.self.now in
    c.is_matched.ensures
    ∙ is_spelled t c.args.kept.now x.next c.compare_head.new.bytes c.compare_lists.new.bytes c.may_follow.result
    holds.next
    (c.compare_head.ensures t holds ∙ ap (left_after (head_of t)) c.new-bytes.ensures)
    (c.may_follow.ensures t holds)
    c.if-not-may_follow.false (c.in_ok-compare_lists.ensures.compared t holds)
