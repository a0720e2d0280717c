use Rattle.std.proofs.Common.{◌≡◌, length}
use Rattle.std.specs.List.{list_any}
use Rattle.std.specs.Str.{bytes_eq}
use Rattle.rq_model.specs.States.{Definition}
use Rattle.rq_standing.proofs.asks.is_named.Given as goal

abbrev pub invariant-loop-first : goal.invariant-loop-first
invariant-loop-first l = list_any (λ (d : Definition). bytes_eq d.name l.name) l.left
    ≡ list_any (λ (d : Definition). bytes_eq d.name l.name) l.definitions

abbrev pub decreases-loop-first : goal.decreases-loop-first
decreases-loop-first l = length l.left
