use Rattle.std.proofs.Common.{subst}
use Rattle.std.proofs.lemmas.Result.{IfOk-weaker}
use Rattle.rq_follow.specs.Followers.{IsSoFar}
use Rattle.rq_follow.proofs.Fronts.{carried_answers, carried_within, linked_answers, plain_answers, plain_within}
use Rattle.rq_follow.proofs.Fronts.{short_answers}
use Rattle.rq_follow.proofs.follower.Follower.redone.Goals as goal

pub returns-in-Plain-clause-front : goal.returns-in-Plain-clause-front
returns-in-Plain-clause-front c = λ b h.
    plain_answers c.one_front.ensures.stops c.carried_headers.ensures.apart b c.in-Plain.pass c.redone.result
    (subst (IsSoFar b) c.in-Plain.is h) c.redone.ensures.front c.redone.ensures.refused

pub returns-in-Carried-clause-front : goal.returns-in-Carried-clause-front
returns-in-Carried-clause-front c = λ b h.
    carried_answers c.one_front.ensures.stops c.carried_headers.ensures.read b c.in-Carried.pass
    c.redone-in-Carried.result (subst (IsSoFar b) c.in-Carried.is h) c.redone-in-Carried.ensures.front
    c.redone-in-Carried.ensures.refused

pub returns-in-Header-clause-front : goal.returns-in-Header-clause-front
returns-in-Header-clause-front c = λ b h.
    let (same, few) = subst (IsSoFar b) c.in-Header.is h in
    short_answers b few

pub returns-in-Linked-clause-front : goal.returns-in-Linked-clause-front
returns-in-Linked-clause-front c = λ b h.
    linked_answers c.carried_headers.ensures.read b c.in-Linked.field-0.items (subst (IsSoFar b) c.in-Linked.is h)

pub returns-in-Plain-clause-within : goal.returns-in-Plain-clause-within
returns-in-Plain-clause-within c =
    IfOk-weaker c.redone.result _ _ (λ r of. λ b h.
    plain_within b c.in-Plain.pass r (subst (IsSoFar b) c.in-Plain.is h) of) c.redone.ensures.front

pub returns-in-Carried-clause-within : goal.returns-in-Carried-clause-within
returns-in-Carried-clause-within c =
    IfOk-weaker c.redone-in-Carried.result _ _ (λ r of. λ b h.
    carried_within b c.in-Carried.pass r (subst (IsSoFar b) c.in-Carried.is h) of) c.redone-in-Carried.ensures.front
