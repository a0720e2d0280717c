-- What holds of all arrivals once the countdown is closed.
use Rattle.std.specs.Prelude.{◌≡◌, ◌↔◌, ℕ, suc, zero, ◌<◌, ◌⊎◌, eqb, Bool, true, false, List, [], ◌∷◌, ◌++◌, length}
use Rattle.std.specs.Prelude.{flat_map}
use mathlib.Core.Option.{some}
use lib.ListN.{get_elem?}
use Rattle.rq_pool.specs.declared.countdown.arrival.Entry.{Entry}
use Rattle.rq_pool.specs.declared.countdown.arrival.Arrival.{Arrival}
use Rattle.rq_pool.specs.declared.countdown.arrival.Arrival.TheVariants.{Twice, NotLast, Last}
use Rattle.rq_pool.specs.Countdowns.History.{refused_outboxes, back_in}

-- the list if the test holds, and nothing otherwise
abbrev pub only : {A : Type 0} → Bool → List A → List A
only true xs = xs
only false xs = []

module _ {T : Type 0} where
  -- the outbox x, if the answer did not give it back
  abbrev pub if_kept : T → Arrival T → List T
  if_kept x (Twice y) = []
  if_kept x NotLast = x ∷ []
  if_kept x (Last ys) = x ∷ []

  -- what the answer Last gives
  abbrev pub if_last : Arrival T → List (List T)
  if_last (Twice y) = []
  if_last NotLast = []
  if_last (Last ys) = ys.items ∷ []

  -- the arrivals for the source i
  abbrev pub arrivals_for : ℕ → List (Entry T) → List (Entry T)
  arrivals_for i = flat_map (λ e. only (eqb e.source i) (e ∷ []))

  -- the outboxes of those that were not answered Twice
  abbrev pub kept_for : ℕ → List (Entry T) → List T
  kept_for i = flat_map (λ e. only (eqb e.source i) (if_kept e.outbox e.answer))

  -- of the n sources from i on, in their order
  abbrev pub kept_from : ℕ → ℕ → List (Entry T) → List T
  kept_from i zero es = []
  kept_from i (suc n) es = kept_for i es ++ kept_from (suc i) n es

  -- what the arrivals that were answered Last were given
  abbrev pub last_lists : List (Entry T) → List (List T)
  last_lists = flat_map (λ e. if_last e.answer)

  -- some source below n has no arrival
  abbrev pub SomeMissing : ℕ → List (Entry T) → Type 0
  SomeMissing n es = (i : ℕ) × (i < n) × (arrivals_for i es ≡ [])

  -- The arrivals es were all that were made for the n sources of a countdown. Of the arrivals for a
  -- source exactly one was not answered Twice, and Twice gave each outbox back. If some source has
  -- no arrival, nobody was answered Last and what was kept is at home. Otherwise one was, with what
  -- was kept: the ith for the source i.
  pub record Settled (n : ℕ) (es : List (Entry T)) (arrived : ℕ) (home : List T) : Type 0 where
    pub once : (i : ℕ) → i < n → (arrivals_for i es ≡ []) ⊎ ((x : T) × (kept_for i es ≡ x ∷ []))
    pub gave_back : back_in es ≡ refused_outboxes es
    pub arrivals : arrived ≡ length (kept_from 0 n es)
    pub missing : arrived < n ↔ SomeMissing n es
    pub outcome : ((arrived < n) × (last_lists es ≡ []) × (home ≡ kept_from 0 n es))
        ⊎ ((arrived ≡ n) × (last_lists es ≡ kept_from 0 n es ∷ []) × (home ≡ []))
    pub placed : arrived ≡ n → (i : ℕ) → i < n
        → (x : T) × (get_elem? (kept_from 0 n es) i ≡ some x) × (kept_for i es ≡ x ∷ [])
