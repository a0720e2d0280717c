use Rattle.std.proofs.Common.{rules, arith, ◌+◌}
use Rattle.rq_pool.proofs.Countdowns.Joins.{starts}
use Rattle.rq_pool.proofs.countdown.Countdown.open.Goals as goal

pub vacant-requires : goal.vacant-requires
vacant-requires g c = starts g.T.Fits.fits _ c.args.sources (c.args.sources + 1) _ (omega arith) (search rules)
    (omega arith) (search rules)
