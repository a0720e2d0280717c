-- The priorities of the elements of a queue, by id.
use Rattle.std.specs.Prelude.{◌≡◌, ⊤, ℕ, List, [], ◌∷◌, Option, Some, None}
use Rattle.std.specs.BTreeMap.{BTreeMap, insert_entry, is_at}
use Rattle.std.specs.List.{AllByRecursion}
use Rattle.std.specs.Map.{lookup}
use Rattle.std.specs.Ordering.{nat_cmp}
use Rattle.rq_model.specs.States.{Element}

-- the priority of the element is kept under its id
abbrev pub IsKnown : List (ℕ × ℕ) → Element → Type 0
IsKnown by_id e = lookup (is_at (nat_cmp e.id)) by_id ≡ Some e.priority

-- so is that of each element, if priorities are kept
abbrev pub AreKnown : Option (BTreeMap ℕ ℕ) → List Element → Type 0
AreKnown None es = ⊤
AreKnown (Some by_id) es = AllByRecursion (IsKnown by_id.entries) es

-- the priorities, and those of the elements
abbrev pub with_all : List Element → List (ℕ × ℕ) → List (ℕ × ℕ)
with_all [] by_id = by_id
with_all (e ∷ es) by_id = with_all es (insert_entry nat_cmp by_id e.id e.priority)
