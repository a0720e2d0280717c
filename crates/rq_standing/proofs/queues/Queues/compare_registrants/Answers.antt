use Rattle.std.proofs.Common.{◌<◌, ◌≤◌, ◌∙◌, arith, ap, sym, subst, sum_by, length}
use Rattle.std.specs.List.{flat_map}
use Rattle.rq_model.specs.Queues.{Part}
use Rattle.rq_model.specs.StateSpelling.{registrant_bytes}
use Rattle.rq_state.specs.Comparing.{left_after}
use Rattle.rq_state.proofs.Behind.{counted_follow}
use Rattle.rq_standing.proofs.Together.{registrants_counted, registrants_spelled}
use Rattle.rq_standing.proofs.queues.Queues.compare_registrants.Goals as goal

pub registrants_in-requires : goal.registrants_in-requires
registrants_in-requires c =
    let t = c.requires.few.0 in
    let holds = c.requires.few.1 in
    subst (λ n. n < 4294967296)
    (sym (ap (sum_by (λ (p : Part). length p.registrants)) c.deref.ensures.value
    ∙ registrants_counted c.parts_make_the_state.ensures t c.args.self.now.parts.items holds.well holds.parts
    holds.size))
    (omega (arith, c.requires.few.2))

pub member_count-requires : goal.member_count-requires
member_count-requires c =
    let t = c.requires.few.0 in
    let holds = c.requires.few.1 in
    subst (λ n. n < 4294967296)
    (sym (c.registrants_in.ensures ∙ (ap (sum_by (λ (p : Part). length p.registrants)) c.deref.ensures.value
    ∙ registrants_counted c.parts_make_the_state.ensures t c.args.self.now.parts.items holds.well holds.parts
    holds.size)))
    (omega (arith, c.requires.few.2))

pub returns : goal.returns
returns c = λ t holds.
    let law = c.parts_make_the_state.ensures in
    let parts = c.args.self.now.parts.items in
    counted_follow registrant_bytes t.registrants c.registrants_in.result c.args.bytes.now c.member_count.new.self
    c.compare_registrants_of.new.bytes
    (c.registrants_in.ensures ∙ (ap (sum_by (λ (p : Part). length p.registrants)) c.deref.ensures.value
    ∙ registrants_counted law t parts holds.well holds.parts holds.size))
    c.member_count.ensures
    (c.compare_registrants_of.ensures
    ∙ ap (λ text. left_after text c.member_count.new.self)
    (ap (flat_map (λ (p : Part). flat_map registrant_bytes p.registrants)) c.deref-2.ensures.value
    ∙ registrants_spelled law t parts holds.well holds.parts holds.size))
