use Rattle.std.proofs.Common.{◌∷◌, [], ◌++◌, length, ap, arith}
use Rattle.rq_pool.proofs.Words.{worker_view, length-append}
use Rattle.rq_pool.proofs.Rules.{length_sum}
use Rattle.rq_pool.proofs.deck.drained.Goals as goal

pub returns-clause-room : goal.returns-clause-room
returns-clause-room c = let inv = c.loop-x.invariant in (
  inv.capacity,
  (let e = c.in_default.ensures.emptied inv.parts (λ _. 1) in let d = ap length inv.dealt in let l = inv.len in
      omega (arith, length_sum (worker_view c.loop-x.owner).taken, length_sum (worker_view c.loop-x.owner).dealt)),
)

pub push_reserved-requires : goal.push_reserved-requires
push_reserved-requires c = let inv = c.loop-x.invariant in let before = worker_view c.loop-x.owner in let few =
    c.in-Some.ensures.taken.1 (λ _. 1) in let d = ap length inv.dealt in let k = inv.capacity in let l = inv.len in
    let fit = c.requires.reserved in
    omega (
      arith,
      length_sum (before.taken ++ c.in-Some.x ∷ []),
      length_sum before.dealt,
      length-append before.taken (c.in-Some.x ∷ []),
    )

pub loop-x-smaller : goal.loop-x-smaller
loop-x-smaller c = let before = worker_view c.loop-x.owner in let after = worker_view c.pop.new.owner in let got =
    c.in-Some.ensures.taken in let few = got.1 (λ _. 1) in let t = ap (λ v. length v.taken) got.0 in let d =
    ap (λ v. length v.dealt) got.0 in
    omega (
      arith,
      length_sum (before.taken ++ c.in-Some.x ∷ []),
      length_sum before.dealt,
      length-append before.taken (c.in-Some.x ∷ []),
    )
