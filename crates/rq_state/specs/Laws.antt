-- Laws of lists put in order.
use Rattle.std.specs.Prelude.{◌≡◌, ◌++◌, [], ℕ, List, length, suc, zero}
use Rattle.std.specs.List.Sorted.{IsPermutation}
use Rattle.rq_model.specs.States.{State}
use Rattle.rq_model.specs.WellFormed.{IsWellFormed}
use Rattle.rq_model.specs.Queues.{Part, part_of}
use Rattle.rq_state.specs.Orders.{state_in_order}

-- what the parts of queues 0 to n - 1 have, gathered
abbrev pub gathered : {X : Type 0} → (Part → List X) → (ℕ → Part) → ℕ → List X
gathered field part zero = []
gathered field part (suc n) = gathered field part n ++ field (part n)

-- the state with the members that its queues' parts have, one queue after another
abbrev pub of_parts : State → State
of_parts s =
    record s {
      registrants = gathered (λ p. p.registrants) (part_of s) (length s.definitions);
      elements = gathered (λ p. p.elements) (part_of s) (length s.definitions);
      notes = gathered (λ p. p.notes) (part_of s) (length s.definitions);
    }

-- The members of all queues' parts, put in order, are the state
abbrev pub PartsMakeTheState : Type 0
PartsMakeTheState = (s : State) → IsWellFormed s → state_in_order (of_parts s) ≡ s

-- the same numbers and definitions, and the same members in any order
pub record HasSame (s t : State) : Type 0 where
  pub next : t.next ≡ s.next
  pub greatest : t.greatest ≡ s.greatest
  pub committed : t.committed ≡ s.committed
  pub aborted : t.aborted ≡ s.aborted
  pub definitions : t.definitions ≡ s.definitions
  pub units : IsPermutation s.units t.units
  pub registrants : IsPermutation s.registrants t.registrants
  pub elements : IsPermutation s.elements t.elements
  pub notes : IsPermutation s.notes t.notes

-- A state's members in any order, put in order, are the state
abbrev pub AnyOrderMakesTheState : Type 0
AnyOrderMakesTheState = (s t : State) → IsWellFormed s → HasSame s t → state_in_order t ≡ s
