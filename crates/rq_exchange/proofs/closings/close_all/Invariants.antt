use Rattle.std.proofs.Common.{◌≡◌, length, map, reverse}
use Rattle.rq_exchange.proofs.Words.{history_of, IsSettled, Halfway}
use Rattle.rq_pool.specs.Countdowns.Words.{histories_of}
use Rattle.rq_exchange.proofs.closings.close_all.Given as goal

abbrev pub invariant-loop-countdown : goal.invariant-loop-countdown
invariant-loop-countdown l =
    (h : Halfway IsSettled l.fn.countdowns.items l.fn.columns.items l.countdowns.items l.columns.items)
    × (map (λ c. histories_of c) (reverse l.closings.items)
    ≡ map (λ column. map (λ p. history_of p) column.items) h.more)

abbrev pub decreases-loop-countdown : goal.decreases-loop-countdown
decreases-loop-countdown l = length l.countdowns.items
