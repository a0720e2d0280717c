use Rattle.std.proofs.Common.{◌≡◌, ◌+◌, ◌-◌, ℕ, List, length}
use Rattle.rq_catalog.specs.Grounds.{is_registered_in}
use Rattle.rq_catalog.proofs.registrants.RegisteredNames.reach.Given as goal

abbrev pub invariant-loop-self : goal.invariant-loop-self
invariant-loop-self l = (k : ℕ × List ℕ) → is_registered_in l.self k ≡ is_registered_in l.fn.self k

abbrev pub decreases-loop-self : goal.decreases-loop-self
decreases-loop-self l = l.queue + 1 - length l.self.by_queue.items
