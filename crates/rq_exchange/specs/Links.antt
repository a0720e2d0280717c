-- The error queue of each queue, and the queues whose error queue it is.
use Rattle.std.specs.Prelude.{ℕ, ◌≡◌, ◌<◌, ◌==◌, List, length, slice_index_or, ◌≤◌, []}
use Rattle.rq_state.specs.Orders.{indices_of, listed}
use Rattle.std.specs.Global.{Vec}
use Rattle.rq_pool.specs.Ledger.{times}

-- the number at an index
abbrev pub at : List ℕ → ℕ → ℕ
at xs k = slice_index_or xs k 0

-- each error queue that there is has a smaller number
abbrev pub Fall : List ℕ → Type 0
Fall errors = (k : ℕ) → k < length errors → at errors k < length errors → at errors k < k

-- the queues whose error queue is this one, in their order
abbrev pub naming : List ℕ → ℕ → List ℕ
naming errors queue = indices_of (λ e. e == queue) 0 errors

-- each of the first m queues is at its rank among the sources of its error queue, if that is one of
-- count queues
pub record AreRanks (errors : List ℕ) (count m : ℕ) (ranks : List ℕ) : Type 0 where
  pub long : length ranks ≡ m
  pub ranked : (q : ℕ) → q < m → at errors q < count
      → (at ranks q < length (naming errors (at errors q)))
      × (at (naming errors (at errors q)) (at ranks q) ≡ q)

-- those of the first m queues that have no sources, each once
pub record AreBare (sources : List (Vec ℕ)) (m : ℕ) (tasks : List ℕ) : Type 0 where
  pub once : (x : ℕ) → x < m → length (listed sources x) ≡ 0 → times x tasks ≡ 1
  pub no_other : (x : ℕ) → 0 < times x tasks → (x < m) × (listed sources x ≡ [])
  pub few : length tasks ≤ m
