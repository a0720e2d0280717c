use Rattle.std.proofs.Common.{subst}
use Rattle.rq_follow.specs.Followers.{IsSoFar}
use Rattle.rq_follow.proofs.Told.{carried_ends, linked_ends, plain_ends, short_ends}
use Rattle.rq_follow.proofs.follower.Follower.end.Goals as goal

pub returns-in-Plain : goal.returns-in-Plain
returns-in-Plain c = λ b h.
    plain_ends c.in-Plain.pass c.end.result c.end.ensures.used c.end.ensures.records c.end.ensures.why
    c.one_front.ensures.stops c.carried_headers.ensures.apart b (subst (IsSoFar b) c.in-Plain.is h)

pub returns-in-Carried : goal.returns-in-Carried
returns-in-Carried c = λ b h.
    carried_ends c.in-Carried.pass c.end-in-Carried.result c.end-in-Carried.ensures.used
    c.end-in-Carried.ensures.records c.end-in-Carried.ensures.why
    c.one_front.ensures.stops c.carried_headers.ensures.read b (subst (IsSoFar b) c.in-Carried.is h)

pub returns-in-Header : goal.returns-in-Header
returns-in-Header c = λ b h.
    let (same, few) = subst (IsSoFar b) c.in-Header.is h in
    short_ends b few

pub returns-in-Linked : goal.returns-in-Linked
returns-in-Linked c = λ b h.
    linked_ends c.carried_headers.ensures.read b c.in-Linked.field-0.items (subst (IsSoFar b) c.in-Linked.is h)
