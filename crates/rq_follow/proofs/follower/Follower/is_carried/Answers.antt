use Rattle.std.proofs.Common.{refl, subst}
use Rattle.rq_follow.specs.Followers.{IsSoFar}
use Rattle.rq_follow.proofs.Told.{carried_carried, linked_carried, plain_apart, short_apart}
use Rattle.rq_follow.proofs.follower.Follower.is_carried.Goals as goal

pub returns-in-Header : goal.returns-in-Header
returns-in-Header c = λ b h.
    let (same, few) = subst (IsSoFar b) c.in-Header.is h in
    (λ is. absurd cc, λ it. absurd (short_apart b few it))

pub returns-in-Plain : goal.returns-in-Plain
returns-in-Plain c = λ b h. (
  λ is. absurd cc,
  λ it. absurd (plain_apart c.carried_headers.ensures.apart b c.in-Plain.field-0 (subst (IsSoFar b) c.in-Plain.is h) it),
)

pub returns-in-Linked : goal.returns-in-Linked
returns-in-Linked c = λ b h.
    (λ is. linked_carried b c.in-Linked.field-0.items (subst (IsSoFar b) c.in-Linked.is h), λ it. refl)

pub returns-in-Carried : goal.returns-in-Carried
returns-in-Carried c = λ b h. (
  λ is. carried_carried c.carried_headers.ensures.read b c.in-Carried.field-0 (subst (IsSoFar b) c.in-Carried.is h),
  λ it. refl,
)
