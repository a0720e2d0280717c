use Rattle.std.proofs.Common.{subst, sym}
use Rattle.rq_judged.specs.GrowingFronts.{GoesAlong}
use Rattle.rqlog.proofs.fronts.feed_file.Goals.{else-loop-test, then-loop-test+in_ok-count+in_ok-feed+then-count-eq0}
use Rattle.rqlog.proofs.fronts.feed_file.Goals as goal

pub loop-preserved : goal.loop-preserved
loop-preserved g c = let (b, along) = c.loop.invariant in (_, c.in_ok-feed.ensures.taken b along)

pub returns : goal.returns
returns g c = let (b, along) = c.loop.invariant in elim c.loop-test.branch [
  | else-loop-test w ↦ (b, subst (GoesAlong b) (sym w.front-is) along)
  | then-loop-test+in_ok-count+in_ok-feed+then-count-eq0 w ↦
      (_, subst (GoesAlong _) (sym w.front-is) (w.in_ok-feed.ensures.taken b along))
]
