use Rattle.std.proofs.Common.{◌≡◌, ◌<◌, ℕ, All, length}
use Rattle.rq_exchange.proofs.Words.{State, times, IsPart, HasPart, redone_in}
use Rattle.rq_exchange.proofs.gathered.place.Given as goal

abbrev pub invariant-loop-one : goal.invariant-loop-one
invariant-loop-one l =
    (length l.parts.items ≡ length l.fn.parts.items)
    × ((t : State) → All (IsPart t) l.fn.done.items → (x : ℕ)
    → (HasPart t l.fn.parts.items x → HasPart t l.parts.items x)
    × (0 < times x (redone_in l.yielded) → HasPart t l.parts.items x))
