-- The rule of one deque, and what a step on it tells.
use Rattle.std.specs.Prelude.{◌≡◌, ℕ, ◌+◌, ◌<◌, ◌≤◌, List, [], ◌++◌, sum_by}
use mathlib.Core.Option.{some}
use lib.ListN.{get_elem?}
use Rattle.rq_pool.specs.declared.deque.Share.{Share}
use Rattle.rq_pool.specs.Passes.{share}

-- a pass with no part has taken nothing, and one with a part knows what was dealt
abbrev pub FitsDeal : List ℕ → Share → Type 0
FitsDeal dealt v = (v.parts ≡ 0 → v.taken ≡ []) × (0 < v.parts → v.dealt ≡ dealt)

-- what the deque holds and what the passes took from it are what was pushed on it, each as often,
-- however the numbers are weighed
pub record Balanced (items : List ℕ) (views : List Share) : Type 0 where
  pub dealt : List ℕ
  pub parts : sum_by (λ v. v.parts) views ≡ 256
  pub each_once : (h : ℕ → ℕ) →
      sum_by (λ v. sum_by h v.taken) views + sum_by h items ≡ sum_by h dealt
  pub each_view : (port : ℕ) (v : Share) → get_elem? views port ≡ some v → FitsDeal dealt v

-- the numbers are dealt to the deque
abbrev pub Pushed : Share → List ℕ → Share → Type 0
Pushed v xs w = w ≡ share v.parts (v.dealt ++ xs) v.taken

-- the numbers go to the pass, which took none more often than it was dealt, however the numbers are
-- weighed
abbrev pub Taken : Share → List ℕ → Share → Type 0
Taken v xs w = (w ≡ share v.parts v.dealt (v.taken ++ xs))
    × ((h : ℕ → ℕ) → sum_by h (v.taken ++ xs) ≤ sum_by h v.dealt)

-- with all parts: all that was dealt was taken
abbrev pub Emptied : Share → Type 0
Emptied v = v.parts ≡ 256 → (h : ℕ → ℕ) → sum_by h v.taken ≡ sum_by h v.dealt
