use Rattle.std.proofs.Common.{◌≡◌, map}
use Rattle.rq_exchange.proofs.closings.apart.Given as goal

abbrev pub invariant-loop-one : goal.invariant-loop-one
invariant-loop-one l = (l.rows.items ≡ map (λ k. k.passes) l.yielded) × (l.all.items ≡ map (λ k. k.done) l.yielded)
