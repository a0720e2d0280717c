-- How the elements of a queue are kept.
use Rattle.std.specs.Prelude.{◌≡◌, ◌≢◌, ℕ, true, List, [], ◌∷◌, ◌++◌, map, filter, not, ◌&&◌}
use Rattle.std.specs.List.{AllByRecursion}
use Rattle.std.specs.Global.{Vec}
use Rattle.std.specs.declared.cmp.Reverse.{Reverse}
use Rattle.std.specs.Map.{values_of}
use Rattle.rq_model.specs.States.{Element, Definition, Free, is_free, is_fresh, is_held}
use Rattle.rq_model.specs.Machine.{marked, leaves, moved, returned}
use Rattle.rq_model.specs.Queues.{Move, is_marked}
use Rattle.rq_model.specs.WellFormed.{Ordered}
use Rattle.rq_queue.specs.Sorted.{sorted}

-- the elements in lists by unit
abbrev pub items_of : List (ℕ × Vec Element) → List Element
items_of [] = []
items_of (e ∷ es) = e.1.items ++ items_of es

-- a key, with the element that is under it
abbrev pub Entry : Type 0
Entry = (Reverse ℕ × ℕ) × Element

-- a Free element under its key
abbrev pub IsKeyed : Entry → Type 0
IsKeyed e = (e.0 ≡ (record { 0 = e.1.priority }, e.1.id)) × (is_free e.1.mark ≡ true)

-- elements that are marked for the unit
abbrev pub IsOfUnit : ℕ × Vec Element → Type 0
IsOfUnit e = AllByRecursion (λ x. is_marked e.0 x.mark ≡ true) e.1.items

-- e is at the end of the list of its unit, and the others stay
pub record Stowed (e : Element) (old new : List (ℕ × Vec Element)) : Type 0 where
  pub list : List Element
  pub front : List Element
  pub back : List Element
  pub left : List Element
  pub right : List Element
  pub before : items_of old ≡ front ++ (list ++ back)
  pub after : items_of new ≡ left ++ ((list ++ e ∷ []) ++ right)
  pub rest : front ++ back ≡ left ++ right

-- the list of a unit among the others
pub record Among (list whole others : List Element) : Type 0 where
  pub front : List Element
  pub back : List Element
  pub whole_is : whole ≡ front ++ (list ++ back)
  pub others_are : others ≡ front ++ back

-- what a COMMIT of the unit leaves of its elements: those that it does not hold, as Free ones
abbrev pub unheld : ℕ → List Element → List Element
unheld unit es = map (marked Free) (filter (λ e. not (is_held unit e.mark)) es)

-- what an ABORT of the unit leaves of its elements
abbrev pub staying : Definition → ℕ → List Element → List Element
staying home unit es =
    map (returned unit) (filter (λ e. not (is_fresh unit e.mark) && not (leaves home unit e)) es)

-- the elements that an ABORT of the unit sends away, as they arrive
abbrev pub sent_from : ℕ → Definition → List Element → List Move
sent_from place home es = map (λ e. record { place = place; element = moved home e }) es

-- the same elements by number, some of them under their keys now
abbrev pub Frees : List Element → List Entry → List Element → List Entry → List Element → Type 0
Frees others old list new rest = AllByRecursion IsKeyed old
    → Ordered (λ e f. e.id ≢ f.id) (values_of old ++ (list ++ others))
    → AllByRecursion IsKeyed new
    × (Ordered (λ e f. e.id ≢ f.id) (values_of new ++ (rest ++ others))
    × (sorted (values_of new ++ (rest ++ others)) ≡ sorted (values_of old ++ (list ++ others))))
