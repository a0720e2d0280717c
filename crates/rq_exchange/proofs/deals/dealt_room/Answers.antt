use Rattle.std.proofs.Common.{refl, ◌∙◌, ℕ, List, ◌<◌, ◌%◌, length, length-append, get_or, eqb, cond, rules, arith}
use Rattle.rq_exchange.proofs.Words.{times, sum_by_push, sum_by_more}
use Rattle.rq_exchange.proofs.Counting.{none_listed, weigh_more}
use Rattle.rq_exchange.proofs.deals.dealt_room.Goals as goal

pub loop-i-init : goal.loop-i-init
loop-i-init c =
    let none = c.in_ok-lists.ensures.listed in
    let lists = c.in_ok-lists.lists.items in (
      c.in_ok-lists.lists.ok.0 ∙ c.in_ok-lists.ensures.len,
      (λ x. none_listed (times x) lists refl none),
      none_listed length lists refl none,
    )

pub loop-i-preserved : goal.loop-i-preserved
loop-i-preserved c =
    let i = c.loop-i.invariant in
    let k = c.loop-i.i % c.args.workers in
    let lt : k < length c.loop-i.lists.items = search rules in
    let near : c.loop-i.i < length c.args.tasks.now = search rules in
    let q = get_or c.args.tasks.now c.loop-i.i 0 in
    let more = λ (h : List ℕ → ℕ). weigh_more h c.loop-i.lists.items k q c.index_mut.result.now c.push.new.self lt
    c.index_mut.ensures.value c.in_ok-push.ensures.items in (
      i.0,
      (λ x.
          let is : ℕ → ℕ = λ y. cond (eqb y x) 1 0 in
          let one = sum_by_push is c.index_mut.result.now.items q in
          let next = sum_by_more is c.args.tasks.now c.loop-i.i 0 near in
          omega (arith, i.1 x, more (times x))),
      omega (arith, i.2, more length, length-append {A = ℕ}),
    )
