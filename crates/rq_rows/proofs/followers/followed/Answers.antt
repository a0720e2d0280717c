use Rattle.std.proofs.Common.{[], ◌++◌}
use Rattle.rq_rows.proofs.followers.followed.Goals as goal

-- behind the first piece
pub take-requires-2-after_bounds : goal.take-requires-2-after_bounds
take-requires-2-after_bounds g c κs within =
    ([] ++ c.args.first.now, c.in_ok-take.ensures.taken [] c.new-follower.ensures)

-- behind both
pub bytes_come-total-requires : goal.bytes_come-total-requires
bytes_come-total-requires g c = (
  ([] ++ c.args.first.now) ++ c.args.second.now,
  c.in_ok-take-2.ensures.taken ([] ++ c.args.first.now) (c.in_ok-take.ensures.taken [] c.new-follower.ensures),
)

pub redone-requires : goal.redone-requires
redone-requires g c = (
  ([] ++ c.args.first.now) ++ c.args.second.now,
  c.in_ok-take-2.ensures.taken ([] ++ c.args.first.now) (c.in_ok-take.ensures.taken [] c.new-follower.ensures),
)
