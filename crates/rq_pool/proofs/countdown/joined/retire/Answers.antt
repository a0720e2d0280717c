use Rattle.std.proofs.Common.{rules, ap, ◌∙◌, replicate, None}
use Rattle.rq_pool.proofs.Countdowns.Words.{indexed}
use Rattle.rq_pool.proofs.Countdowns.Steps.{gives_back}
use Rattle.rq_pool.proofs.countdown.joined.retire.Goals as goal

pub load-requires : goal.load-requires
load-requires g c = let was = c.args.pass.was_last c.in-None.is in (
  search rules,
  search rules,
  gives_back g.T.Fits.fits c.args.board.now.key _ _ _ was.0
      (was.1 ∙ ap (λ z. indexed 0 (replicate z.slots None)) c.requires.0),
)
