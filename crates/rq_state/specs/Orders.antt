-- Lists in the model's order, and the tables of where a queue's members stand in them.
use Rattle.std.specs.Prelude.{ℕ, ◌+◌, nat_lt, Bool, if◌then◌else◌, List, [], ◌∷◌, map, slice_index_or, ◌≡◌, ◌==◌}
use Rattle.std.specs.Global.{Vec}
use Rattle.std.specs.Ordering.{nat_cmp, ordering_then}
use Rattle.std.specs.declared.cmp.Ordering.{Ordering}
use Rattle.std.specs.Cmp.Lexicographic.{slice_cmp}
use Rattle.rq_model.specs.States.{State, Note, put, id_before, registrant_before, Element}

-- each put in, from the last to the first
abbrev pub put_in_order : {X : Type 0} → (X → X → Bool) → List X → List X
put_in_order before [] = []
put_in_order before (x ∷ xs) = put before x (put_in_order before xs)

-- a queue and name before another: by queue, then by the bytes of the name
abbrev pub key_cmp : ℕ × List ℕ → ℕ × List ℕ → Ordering
key_cmp a b = ordering_then (nat_cmp a.0 b.0) (slice_cmp nat_cmp a.1 b.1)

abbrev pub place_before : Note → Note → Bool
place_before a b = nat_lt a.last.place b.last.place

-- the state with its lists put in order
abbrev pub state_in_order : State → State
state_in_order s = record s {
  units = put_in_order nat_lt s.units;
  registrants = put_in_order registrant_before s.registrants;
  elements = put_in_order id_before s.elements;
  notes = put_in_order place_before s.notes;
}

-- the members of a list at these indices
abbrev pub AreAt : {X : Type 0} → List X → List ℕ → List X → Type 0
AreAt {X} all indices members = (x : X) → map (λ index. slice_index_or all index x) indices ≡ members

-- the indices of those that pass the test, counted from n
abbrev pub indices_of : {X : Type 0} → (X → Bool) → ℕ → List X → List ℕ
indices_of p n [] = []
indices_of p n (x ∷ xs) = if p x then n ∷ indices_of p (n + 1) xs else indices_of p (n + 1) xs

-- what a table has for a queue: nothing if there is no such queue
abbrev pub listed : {X : Type 0} → List (Vec X) → ℕ → List X
listed table queue = slice_index_or (map (λ v. v.items) table) queue []

-- the tables have the indices of each queue's members
pub record IsTabled (es : List Element) (ns : List Note) (element_table note_table : List (Vec ℕ)) : Type 0 where
  pub homes : (queue : ℕ) → listed element_table queue ≡ indices_of (λ e. e.home == queue) 0 es
  pub noted : (queue : ℕ) → listed note_table queue ≡ indices_of (λ n. n.queue == queue) 0 ns
