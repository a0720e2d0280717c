use Rattle.std.proofs.Common.{ℕ, List}
use Rattle.rq_follow.specs.Followers.{IsFollowing}
use Rattle.rqlog.proofs.follow.Standby.go_along.Given as goal

abbrev pub invariant-loop : goal.invariant-loop
invariant-loop g l = (b : List ℕ) × IsFollowing b l.self.follower
