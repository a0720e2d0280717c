use Rattle.std.proofs.Common.{◌∷◌, sym, arith}
use Rattle.rq_exchange.proofs.Words.{IsSettled, IsColumn, reverse-append}
use Rattle.rq_exchange.proofs.Pairs.{all_before, taken, one_back, all_gone, pairs_long}
use Rattle.rq_exchange.proofs.closings.close_all.Goals as goal

pub loop-countdown-init : goal.loop-countdown-init
unfolding all_before
loop-countdown-init c = (
  all_before IsSettled c.args.countdowns.items c.args.columns.items (sym (pairs_long IsColumn _ _ c.requires.own)),
  rw c.in_ok-closings.ensures.items,
)

pub close-requires : goal.close-requires
close-requires c =
    let both = taken IsSettled _ _ _ _ _ _ _ _ c.in-Some.ensures.items c.in-Some-pop.ensures.items
    c.loop-countdown.invariant.0 IsColumn c.requires.own in
    record { own = both.0; all = both.1 }

pub loop-countdown-preserved : goal.loop-countdown-preserved
unfolding one_back
loop-countdown-preserved c = (
  one_back IsSettled _ _ _ _ _ _ _ _ c.in-Some.ensures.items c.in-Some-pop.ensures.items c.loop-countdown.invariant.0
      (c.close.result.arrived, c.close.result.home.items, c.close.ensures.settled),
  rw (c.in_ok-push.ensures.items, reverse-append)
      (λ i. c.close.ensures.histories i ∷ c.loop-countdown.invariant.1 i),
)

pub returns-clause-settled : goal.returns-clause-settled
returns-clause-settled c = (all_gone IsSettled _ _ _ _ c.loop-countdown.invariant.0
    (omega (arith, c.in_default.ensures.cases, c.loop-countdown.countdowns.ok.0))).0

pub returns-clause-histories : goal.returns-clause-histories
returns-clause-histories c =
    let gone = (all_gone IsSettled _ _ _ _ c.loop-countdown.invariant.0
    (omega (arith, c.in_default.ensures.cases, c.loop-countdown.countdowns.ok.0))).1 in
    rw (c.reverse.ensures.items, gone) c.loop-countdown.invariant.1
