use Rattle.std.proofs.Common.{◌≡◌, List, ℕ, ◌++◌, subst, sym}
use Rattle.std.specs.Prelude.{OnOk, Result, Ok, Err}
use Rattle.rq_follow.specs.Followers.{IsFollowing}
use Rattle.rq_follow.specs.declared.follower.Follower.{Follower}
use Rattle.rqlog.proofs.follow.Standby.take.Goals as goal

-- one that takes a piece behind some bytes goes along with both
comes : (b piece : List ℕ) (old kept new : Follower) → kept ≡ old → IsFollowing b old
    → ((bs : List ℕ) → IsFollowing bs kept → IsFollowing (bs ++ piece) new) → (bs : List ℕ) × IsFollowing bs new
comes b piece old kept new same is takes =
    (b ++ piece, takes b (subst (λ (f : Follower). IsFollowing b f) (sym same) is))

-- what is so in any case
also_ok : {A E : Type 0} (r : Result A E) (P : Type 0) → P → OnOk r P
also_ok (Ok x) P p = p
also_ok (Err e) P p = tt

pub expect_open-requires : goal.expect_open-requires
expect_open-requires g c =
    comes c.requires.0 c.args.piece.now c.args.self.now.follower c.keep.new.self.follower c.take.new.self
    c.in_ok-keep.ensures c.requires.1 c.in-Ok.ensures.taken

pub returns-in-Ok : goal.returns-in-Ok
returns-in-Ok g c =
    also_ok c.expect_open.result ((b : List ℕ) × IsFollowing b c.take.new.self)
    (comes c.requires.0 c.args.piece.now c.args.self.now.follower c.keep.new.self.follower c.take.new.self
    c.in_ok-keep.ensures c.requires.1 c.in-Ok.ensures.taken)
