use Rattle.std.proofs.Common.{◌≡◌, ◌++◌, map, take}
use Rattle.rq_found.specs.Events.{at_end}
use Rattle.rq_found.proofs.followed.put_ends.Given as goal

abbrev pub invariant-loop-element : goal.invariant-loop-element
invariant-loop-element l = l.events.items
    ≡ l.fn.events.items ++ map at_end (map (λ p. (p.0.0, p.1)) (take l.element-index l.ends))
