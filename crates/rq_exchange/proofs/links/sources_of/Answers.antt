use Rattle.std.proofs.Common.{◌<◌, ◌==◌, ◌∙◌, length, get_or, arith, rules, ap, take}
use Rattle.rq_exchange.proofs.Words.{common_steps, length-take, cases_Bool, take_more}
use Rattle.rq_exchange.proofs.Counting.{few_from, indices_push}
use Rattle.rq_exchange.proofs.Sources.{ranks_more}
use Rattle.rq_exchange.proofs.links.sources_of.Goals as goal

pub list-requires : goal.list-requires
list-requires c =
    let k = c.loop-queue.queue in
    let e = get_or c.args.errors.now k 0 in
    let i = c.loop-queue.invariant in
    record {
      few = λ within.
          let listed = ap length (i.1 e (omega (arith, within, i.0))) in
          let few = few_from (λ n. n == e) 0 (take k c.args.errors.now) in
          omega (arith, length-take k c.args.errors.now, c.requires);
    }

pub loop-queue-preserved : goal.loop-queue-preserved
loop-queue-preserved c =
    let xs = c.args.errors.now in
    let k = c.loop-queue.queue in
    let e = get_or xs k 0 in
    let i = c.loop-queue.invariant in
    let lt : k < length xs = search rules in (
      c.list.ensures.len ∙ i.0,
      (λ x near.
          let old = i.1 x near in
          let new = c.in_ok-rank.ensures.listed x (omega (arith, near, i.0)) in
          grind (arith, common_steps, indices_push, cases_Bool (e == x))),
      rw (take_more xs k 0 lt, c.in_ok-push.ensures.items) (ranks_more (take k xs) c.loop-queue.ranks.items c.args.count
          k e c.in_ok-rank.rank (grind (arith, common_steps)) i.2 (λ near. grind (arith, i.1 e near))),
    )
