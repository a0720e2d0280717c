-- The registrants of a queue, as they are kept and in order.
use Rattle.std.specs.Prelude.{◌≡◌, ◌%◌, nat_lt, ℕ, suc, Bool, List, [], ◌∷◌, Option, if◌then◌else◌, ◌==◌, ◌&&◌}
use Rattle.std.specs.Cmp.Lexicographic.{slice_cmp}
use Rattle.std.specs.Ordering.{nat_cmp}
use Rattle.std.specs.declared.cmp.Ordering.TheVariants.{Less}
use Rattle.rq_model.specs.States.{Last, Note, Registrant, is_note_of}
use Rattle.rq_model.specs.Machine.{later}
use Rattle.rq_model.specs.WellFormed.{Ordered}

-- a name, with the last operation
abbrev pub RollEntry : Type 0
RollEntry = List ℕ × Option Last

-- the same as a registrant of the queue
abbrev pub registrant_of : ℕ → RollEntry → Registrant
registrant_of queue e = record { queue = queue; name = e.0; last = e.1 }

abbrev pub entry_of : Registrant → RollEntry
entry_of r = (r.name, r.last)

-- those at the places that pass
abbrev pub picked : {X : Type 0} → (ℕ → Bool) → List X → List X
picked p [] = []
picked p (x ∷ xs) = if p 0 then x ∷ picked (λ n. p (suc n)) xs else picked (λ n. p (suc n)) xs

-- the first eight of each sixteen
abbrev pub is_early : ℕ → Bool
is_early place = nat_lt (place % 16) 8

-- by name
abbrev pub IsRoll : List RollEntry → Type 0
IsRoll es = Ordered (λ (a b : RollEntry). slice_cmp nat_cmp a.0 b.0 ≡ Less) es

-- the registrant after a note, if that is one of the unit and its own
abbrev pub heard : ℕ → Note → Registrant → Registrant
heard unit n r = if (n.unit == unit) && is_note_of r.queue r.name n
    then record r { last = later r.last n.last } else r
