-- What one arrival is answered, and what a pass remembers of its arrivals.
use Rattle.std.specs.Prelude.{◌≡◌, ℕ, List, [], ◌∷◌, length, flat_map}
use mathlib.Core.Option.{some}
use lib.ListN.{get_elem?}
use Rattle.rq_pool.specs.declared.countdown.arrival.Entry.{Entry}
use Rattle.rq_pool.specs.declared.countdown.arrival.Arrival.{Arrival}
use Rattle.rq_pool.specs.declared.countdown.arrival.Arrival.TheVariants.{Twice, NotLast, Last}

module _ {T : Type 0} where
  -- each outbox fits the source at its index
  abbrev pub Fit : (ℕ → T → Type 0) → List T → Type 0
  Fit fit ys = (i : ℕ) (y : T) → get_elem? ys i ≡ some y → fit i y

  -- Twice gives the outbox x back. Last gives an outbox for each of the n sources, each fitting its
  -- own
  abbrev pub Answered : (ℕ → T → Type 0) → ℕ → T → Arrival T → Type 0
  Answered fit n x (Twice y) = y ≡ x
  Answered fit n x NotLast = Unit {0}
  Answered fit n x (Last ys) = (length ys.items ≡ n) × Fit fit ys.items

  -- the arrival for the source i with the outbox x, answered a
  abbrev pub entry : ℕ → T → Arrival T → Entry T
  entry i x a = record { source = i; outbox = x; answer = a }

-- x if the answer is Twice, and nothing otherwise
abbrev pub if_twice : {T A : Type 0} → A → Arrival T → List A
if_twice x (Twice y) = x ∷ []
if_twice x NotLast = []
if_twice x (Last ys) = []

module _ {T : Type 0} where
  -- what the answer Twice gives back
  abbrev pub back_by : Arrival T → List T
  back_by (Twice y) = y ∷ []
  back_by NotLast = []
  back_by (Last ys) = []

  -- the outboxes of the arrivals that were answered Twice
  abbrev pub refused_outboxes : List (Entry T) → List T
  refused_outboxes = flat_map (λ e. if_twice e.outbox e.answer)

  -- the outboxes that Twice gave back
  abbrev pub back_in : List (Entry T) → List T
  back_in = flat_map (λ e. back_by e.answer)
