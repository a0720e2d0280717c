use Rattle.std.proofs.Common.{rules, arith, eqb-true, sym, ap, ◌∙◌, subst, map, Some, ◌<◌, ◌∷◌}
use Rattle.rq_pool.proofs.Countdowns.Words.{lasts, after, indexed, rest}
use Rattle.rq_pool.proofs.Countdowns.Steps.{counts}
use Rattle.rq_pool.proofs.countdown.steps.hand_in.Goals as goal

pub fetch_sub-requires : goal.fetch_sub-requires
fetch_sub-requires g c = let put = c.exchange.ensures.3 in let was = ap (λ m. m.0) put in (
  search rules,
  omega arith,
  counts g.T.Fits.fits c.args.board.now.key _ _ _ c.args.source c.args.outbox (search rules)
      (ap (λ v. v.at) was ∙ c.requires.at.0)
      (subst (λ v. 0 < v.parts) (sym was) c.requires.at.1)
      (ap (λ m. m.1) put ∙ ap (λ l. (c.args.source, Some c.args.outbox) ∷ rest l) c.requires.at.2) c.requires.key.1,
)

pub returns-clause-last : goal.returns-clause-last
returns-clause-last g c = λ hit. let put = c.exchange.ensures.3 in let was = ap (λ m. m.0) put in let told =
    (c.fetch_sub.ensures.2 c.args.source c.args.outbox
    (ap (λ m. m.1) put ∙ ap (λ l. (c.args.source, Some c.args.outbox) ∷ rest l) c.requires.at.2)).1
    (eqb-true _ _ hit) in let ys =
    told.1.0 in (
      ap lasts (sym was) ∙ told.0,
      (
        ys,
        told.1.1,
        told.1.2 c.args.board.now.key.key (ap (λ v. v.key) was ∙ c.requires.key.0),
        told.1.3 ∙ (λ j. (after (was j) c.args.source c.args.outbox (Some ys), indexed 0 (map Some ys))),
      ),
    )
