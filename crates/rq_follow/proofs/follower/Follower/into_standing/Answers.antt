use Rattle.std.proofs.Common.{subst}
use Rattle.rq_follow.specs.Passes.{front_of}
use Rattle.rq_follow.specs.Followers.{IsSoFar, carried_origin}
use Rattle.rq_follow.proofs.Fronts.{carried_standing, linked_answers, plain_standing, short_answers}
use Rattle.rq_follow.proofs.follower.Follower.into_standing.Goals as goal

pub handed_over-requires-in-Carried : goal.handed_over-requires-in-Carried
handed_over-requires-in-Carried c =
    let (b, h) = c.requires in
    let is = subst (IsSoFar b) c.in-Carried.is h in
    rw c.in-Carried.is (carried_origin is.version is.base is.link, is.bytes, is.fed)

pub returns-in-Plain : goal.returns-in-Plain
returns-in-Plain c = λ b h.
    plain_standing c.one_front.ensures.stops c.carried_headers.ensures.apart b _ (front_of c.handed_over.result)
    c.handed_over.ensures (rw c.in-Plain.is (subst (IsSoFar b) c.in-Plain.is h))

pub returns-in-Carried : goal.returns-in-Carried
returns-in-Carried c = λ b h.
    carried_standing c.one_front.ensures.stops c.carried_headers.ensures.read b _
    (front_of c.handed_over-in-Carried.result) c.handed_over-in-Carried.ensures
    (rw c.in-Carried.is (subst (IsSoFar b) c.in-Carried.is h))

pub returns-in-Header : goal.returns-in-Header
returns-in-Header c = λ b h.
    let (same, few) = subst (IsSoFar b) c.in-Header.is h in
    short_answers b few

pub returns : goal.returns
returns c = λ b h.
    linked_answers c.carried_headers.ensures.read b c.in-Linked.field-0.items (subst (IsSoFar b) c.in-Linked.is h)
