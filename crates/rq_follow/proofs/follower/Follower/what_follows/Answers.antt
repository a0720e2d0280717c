use Rattle.std.proofs.Common.{inr, refl, subst, sym}
use Rattle.rq_follow.specs.Followers.{IsSoFar, TellsBehind}
use Rattle.rq_follow.proofs.Told.{carried_behind, linked_ends, plain_behind, short_ends}
use Rattle.rq_follow.proofs.follower.Follower.what_follows.Goals as goal

pub returns-in-Plain : goal.returns-in-Plain
returns-in-Plain c = λ b h.
    subst (TellsBehind b) (sym c.left_over.ensures)
    (plain_behind c.in-Plain.pass c.one_front.ensures.stops c.carried_headers.ensures.apart b
    (subst (IsSoFar b) c.in-Plain.is h))

pub returns-in-Carried : goal.returns-in-Carried
returns-in-Carried c = λ b h.
    subst (TellsBehind b) (sym c.left_over-in-Carried.ensures)
    (carried_behind c.in-Carried.pass c.one_front.ensures.stops c.carried_headers.ensures.read b
    (subst (IsSoFar b) c.in-Carried.is h))

pub returns-in-Header : goal.returns-in-Header
returns-in-Header c = λ b h.
    let (same, few) = subst (IsSoFar b) c.in-Header.is h in
    inr (refl, short_ends b few)

pub returns-in-Linked : goal.returns-in-Linked
returns-in-Linked c = λ b h.
    inr (
      refl,
      linked_ends c.carried_headers.ensures.read b c.in-Linked.field-0.items (subst (IsSoFar b) c.in-Linked.is h),
    )
