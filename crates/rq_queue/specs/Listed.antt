-- The elements of a queue, as they are kept and by number.
use Rattle.std.specs.Prelude.{◌≢◌, List, ◌++◌}
use Rattle.std.specs.List.{AllByRecursion}
use Rattle.std.specs.Map.{values_of}
use Rattle.rq_model.specs.States.{Element}
use Rattle.rq_model.specs.WellFormed.{Ordered}
use Rattle.rq_queue.specs.Sorted.{sorted}
use Rattle.rq_queue.specs.Kept.{items_of, IsKeyed, IsOfUnit}
use Rattle.rq_queue.specs.Priorities.{AreKnown}
use Rattle.rq_queue.specs.declared.elements.Elements.TheInside.{Inside}

-- in the order of the containers
abbrev pub contents : Inside → List Element
contents a = values_of a.free.entries ++ items_of a.marked.entries

abbrev pub elements_inside : Inside → List Element
elements_inside a = sorted (contents a)

-- each Free element is under its key, each other one with its unit, and numbers differ; priorities
-- that are kept are theirs
pub record IsShelved (a : Inside) : Type 0 where
  pub keyed : AllByRecursion IsKeyed a.free.entries
  pub of_units : AllByRecursion IsOfUnit a.marked.entries
  pub apart : Ordered (λ e f. e.id ≢ f.id) (contents a)
  pub known : AreKnown a.priorities (elements_inside a)
