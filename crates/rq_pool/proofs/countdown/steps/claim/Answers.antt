use Rattle.std.proofs.Common.{rules, arith}
use Rattle.rq_pool.proofs.Countdowns.Steps.{claims}
use Rattle.rq_pool.proofs.countdown.steps.claim.Goals as goal

pub swap-requires : goal.swap-requires
swap-requires g c = (
  search rules,
  omega arith,
  claims g.T.Fits.fits c.args.board.now.key _ _ _ _ c.args.source (omega arith)
      (search rules) (search rules) (search rules),
)
