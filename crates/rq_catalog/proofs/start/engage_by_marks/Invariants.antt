use Rattle.std.proofs.Common.{take}
use Rattle.std.specs.List.{list_any}
use Rattle.rq_catalog.specs.Units.{is_marked_at, EngagesToo}
use Rattle.rq_catalog.proofs.start.engage_by_marks.Given as goal

abbrev pub invariant-loop-element : goal.invariant-loop-element
invariant-loop-element g l =
    EngagesToo g.E.Engaging.numbers_of g.E.Engaging.outcome_in g.E.Engaging.has g.E.Engaging.engages l.fn.units
    (λ u q. list_any (is_marked_at u q) (take l.element-index l.elements)) l.units
