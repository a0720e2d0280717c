-- What pouring a part out does to a list.
use Rattle.std.specs.Prelude.{ℕ, ◌≡◌, ◌≤◌, ◌<◌, ◌+◌, List, ◌++◌, Result, Ok, Err, vec_len, vec_capacity}
use Rattle.std.specs.Global.{Vec}
use Rattle.std.specs.List.Sorted.{IsPermutation}
use Rattle.rq_state.specs.Laws.{gathered}
use Rattle.rq_model.specs.Queues.{Part, part_of}
use Rattle.rq_model.specs.States.{State}
use Rattle.rq_record.specs.declared.fault.Fault.{Fault}
use Rattle.rq_state.specs.Inside.{Fields}
use Rattle.rq_state.specs.declared.fields.FieldsOf.{FieldsOf}

-- the list is as it was; unless refused, it has room for so many members more, if it has any
abbrev pub MakesRoom : {X U : Type 0} → Vec X → Vec X → ℕ → Result U Fault → Type 0
MakesRoom old new count (Ok _) = (new.items ≡ old.items) × (vec_len new ≡ vec_len old)
    × (0 < vec_len new → vec_len new + count ≤ vec_capacity new)
MakesRoom old new count (Err _) = new.items ≡ old.items

-- these members are added after what the list had, in some order; refused, it is as it was
abbrev pub Grows : {X U : Type 0} → List X → List X → List X → Result U Fault → Type 0
Grows {X} old members new (Ok _) =
    (tail : List X) × (new ≡ old ++ tail) × IsPermutation members tail
Grows old members new (Err _) = new ≡ old

-- these members are added after what the list had, in their order; refused, it is as it was
abbrev pub Joins : {X U : Type 0} → List X → List X → List X → Result U Fault → Type 0
Joins old members new (Ok _) = new ≡ old ++ members
Joins old members new (Err _) = new ≡ old

-- nothing but the members is changed
abbrev pub KeepsRest : {E R : Type 0} → FieldsOf E R → FieldsOf E R → Type 0
KeepsRest old new = (new.next ≡ old.next) × (new.greatest ≡ old.greatest)
    × (new.committed ≡ old.committed) × (new.aborted ≡ old.aborted)
    × (new.definitions ≡ old.definitions) × (new.units ≡ old.units)

-- the members of the part are added to the lists; refused, these are as they were
abbrev pub Pours : {U : Type 0} → Fields → Part → Fields → Result U Fault → Type 0
Pours old part new result = Grows old.elements.items part.elements new.elements.items result
    × Grows old.registrants.items part.registrants new.registrants.items result
    × Grows old.notes.items part.notes new.notes.items result × KeepsRest old new

-- the parts of the first n queues are poured out, and nothing else is changed
pub record HasPoured (t : State) (n : ℕ) (old new : Fields) : Type 0 where
  pub elements : IsPermutation
      (old.elements.items ++ gathered (λ p. p.elements) (part_of t) n) new.elements.items
  pub registrants : IsPermutation
      (old.registrants.items ++ gathered (λ p. p.registrants) (part_of t) n) new.registrants.items
  pub notes : IsPermutation
      (old.notes.items ++ gathered (λ p. p.notes) (part_of t) n) new.notes.items
  pub next : new.next ≡ old.next
  pub greatest : new.greatest ≡ old.greatest
  pub committed : new.committed ≡ old.committed
  pub aborted : new.aborted ≡ old.aborted
  pub definitions : new.definitions ≡ old.definitions
  pub units : new.units ≡ old.units
