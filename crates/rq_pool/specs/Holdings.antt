-- What a seat has: a view of its own deque, and what it stole from each deque.
use Rattle.std.specs.Prelude.{◌≡◌, ℕ, ◌+◌, ◌<◌, ◌≤◌, List, [], length, sum_by, slice_index_or}
use Rattle.crossbeam_deque.specs.Handles.{view, stealer_deque}
use Rattle.rq_pool.specs.declared.deque.Share.{Share}
use Rattle.rq_pool.specs.declared.deque_seat.Source.{Source}
use Rattle.rq_pool.specs.Decks.{DeckId}

-- the deque of a source, and the list that was dealt to it
abbrev pub source_id : Source → DeckId
source_id source = (stealer_deque source.thief, (view source.pass).dealt)

-- what the seat stole from the source
abbrev pub stolen : Source → List ℕ
stolen source = (view source.pass).taken

-- the view of the deque of the seat's number, what it stole from each but its own, and the list of
-- all that it took; nothing was taken more often than it was dealt, however the numbers are weighed
pub record Holds (lists : List (List ℕ)) (number : ℕ) (v : Share)
    (stolens : List (List ℕ)) (taken : List ℕ) : Type 0 where
  pub numbered : number < length lists
  pub dealt : slice_index_or lists number [] ≡ v.dealt
  pub parts : v.parts + length lists ≡ 256
  pub same : length stolens ≡ length lists
  pub counts : (h : ℕ → ℕ) → sum_by h taken ≡ sum_by h v.taken + sum_by (sum_by h) stolens
  pub within : (h : ℕ → ℕ) → sum_by h v.taken ≤ sum_by h v.dealt
  pub least : (h : ℕ → ℕ) (j : ℕ) →
      sum_by h (slice_index_or stolens j []) ≤ sum_by h (slice_index_or lists j [])
  pub untouched : slice_index_or stolens number [] ≡ []
