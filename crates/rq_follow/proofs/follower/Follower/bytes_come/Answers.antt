use Rattle.std.proofs.Common.{subst, arith}
use Rattle.rq_follow.specs.Followers.{IsSoFar}
use Rattle.rq_follow.proofs.Beginnings.{carried_total, plain_total, read_size}
use Rattle.rq_follow.proofs.follower.Follower.bytes_come.Goals as goal

pub returns-in-Plain : goal.returns-in-Plain
returns-in-Plain c = λ b h.
    plain_total b c.in-Plain.pass (subst (IsSoFar b) c.in-Plain.is h)

pub returns-in-Carried : goal.returns-in-Carried
returns-in-Carried c = λ b h.
    carried_total b c.in-Carried.pass (subst (IsSoFar b) c.in-Carried.is h)

pub returns-in-Linked : goal.returns-in-Linked
returns-in-Linked c = λ b h.
    let it = subst (IsSoFar b) c.in-Linked.is h in
    omega (
      arith,
      c.len-in-Linked.ensures,
      c.in-Linked.first.ok.0,
      read_size c.carried_headers.ensures.read b c.in-Linked.first.items it.is,
    )
