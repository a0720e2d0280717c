-- What one pass of a deque knows and carries.
use Rattle.std.specs.Prelude.{ℕ, List, sum_by}
use Rattle.std.specs.Global.{Global}
use Rattle.crossbeam_deque.specs.Handles.{Pass, view}
use Rattle.rq_pool.specs.declared.deque.Share.{Share}

-- its parts of the right to know the whole, what was dealt to the deque, and what the pass took
-- from it
abbrev pub share : ℕ → List ℕ → List ℕ → Share
share parts dealt taken = record { parts = parts; dealt = dealt; taken = taken }

-- its parts of the right to know the whole
abbrev pub parts_of : Pass ℕ Share Global → ℕ
parts_of pass = (view pass).parts

-- the weight of what it took
abbrev pub weight_of : (ℕ → ℕ) → Pass ℕ Share Global → ℕ
weight_of h pass = sum_by h (view pass).taken
