use Rattle.std.proofs.Common.{◌≡◌, map, Vec, Global}
use Rattle.rq_exchange.proofs.Words.{Move, Outbox}
use Rattle.rq_exchange.proofs.outboxes.unboxed.Given as goal

abbrev pub invariant-loop-one : goal.invariant-loop-one
invariant-loop-one l = map (λ (v : Vec Move Global). v.items) l.lists.items
    ≡ map (λ (b : Outbox). b.moves.items) l.yielded
