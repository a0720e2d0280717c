use Rattle.std.proofs.Common.{◌<◌, length, map, ap, ◌∙◌, arith, rules, inr}
use Rattle.rq_exchange.proofs.Words.{Target, moves, records_of}
use Rattle.rq_exchange.proofs.chain.open_one.Goals as goal

pub returns-clause-opened : goal.returns-clause-opened
returns-clause-opened c =
    let opened = c.in_ok-countdown.ensures in
    let job = c.args.job.now in
    let some : 0 < length c.listed_for-sources.result.now = search rules in
    inr (record {
      countdown = c.in_ok-countdown.countdown;
      column = c.in_ok-countdown.passes;
      after_is = c.in_ok-push.ensures.items;
      more_is = c.in_ok-push-2.ensures.items;
      slot_is = search rules;
      fed = omega (arith, some, ap length c.listed_for-sources.ensures);
      keyed = (
        opened.countdown.0 ∙ ap length c.listed_for-sources.ensures,
        ap (λ (k : Target). k.due) opened.countdown.1 ∙ c.of.ensures
            ∙ ap (map (moves job.state.now (records_of job))) c.listed_for-sources.ensures,
      );
      fresh = record { own = opened.own; count = opened.count; passes = opened.countdown.2; blank = opened.fresh };
    })
