use Rattle.std.proofs.Common.{◌≡◌, ◌<◌, ℕ, All, map, length}
use Rattle.rq_exchange.proofs.Words.{State, times_in, IsPart, HasPart, redone_in}
use Rattle.rq_exchange.proofs.gathered.placed.Given as goal

abbrev pub invariant-loop-done : goal.invariant-loop-done
invariant-loop-done l =
    (length l.parts.items ≡ l.count)
    × ((t : State) → All (λ done. All (IsPart t) done.items) l.fn.all.items → (x : ℕ)
    → 0 < times_in x (map (λ done. redone_in done.items) l.yielded) → HasPart t l.parts.items x)
