-- A binary search in a list in order tells whether a member passes the test, and where those of a queue stand.
use Rattle.std.proofs.Common.{inl, inr, ◌≡◌, ℕ, zero, suc, ◌<◌, ◌≤◌, ◌||◌, ◌&&◌, cond, Bool, true, false, List, [], ◌∷◌, length, map, take, drop}
use Rattle.std.proofs.Common.{Result, Ok, Err, refl, sym, ap, ◌∙◌, arith}
use Rattle.std.specs.Prelude.{◌==◌, nat_lt, nat_le, slice_index_or}
use Rattle.std.specs.List.{list_any}
use Rattle.std.specs.List.Sorted.{IsBinarySearchResult, IsSearchInRange, IsSortedBy, IsNonDecreasingBy, IsPartitionedBy}
use Rattle.std.specs.List.Sorted.{IsPartitionPoint}
use Rattle.std.specs.Result.{is_ok}
use Rattle.std.specs.Ordering.{is_lt, is_eq, nat_cmp}
use Rattle.std.specs.declared.cmp.Ordering.{Ordering}
use Rattle.std.specs.Cmp.{IsTotalOrder, IsStrictWeakOrder}
use Rattle.std.proofs.lemmas.Cmp.{nat_cmp_total}
use Rattle.std.proofs.lemmas.Bool.{cases_lt, cases_Bool}
use Rattle.std.proofs.lemmas.Bool.Decides.{nat_tests}
use Rattle.std.proofs.lemmas.List.Folds.{list_any_at, list_any_none}
use Rattle.std.proofs.lemmas.List.Sorted.{ranks_by, searchable_from_sorted, IsNonDecreasingBy-from_all_adjacent}
use Rattle.std.proofs.lemmas.List.Sorted.{IsNonDecreasingBy-drop, IsPartitionedBy-leb, IsPartitionedBy-ltb}
use Rattle.rq_record.specs.declared.record.UnitNo.{UnitNo}
use Rattle.rq_model.specs.States.{Registrant, is_registrant, name_before, registrant_before}
use Rattle.rq_model.specs.WellFormed.{Ordered}
use Rattle.rq_state.specs.Views.{unit_of}
use Rattle.rq_model.specs.Queues.{registrants_at}
use Rattle.rq_model.specs.Laws.{registrant_key}
use Rattle.rq_state.specs.Orders.{key_cmp}
use Rattle.rq_model.proofs.Decided.{any_map}
use Rattle.rq_model.proofs.Merged.{ordered_weaker}
use Rattle.rq_state.proofs.InOrder.{key_total, equal_keys}
use Rattle.rq_state.proofs.Neighbours.{at_next, ordered_unmap}

found : {X : Type 0} (p : X → Bool) (xs : List X) (i : ℕ) → i < length xs → ((d : X) → p (slice_index_or xs i d) ≡ true)
    → list_any p xs ≡ true
found p [] i lt h = grind arith
found p (x ∷ xs) i lt h = list_any_at p (x ∷ xs) i x lt (h x)

-- a search by a key gives what testing each member gives
pub searched_by : {X K : Type 0} (key : X → K) (R : K → K → Ordering) → IsTotalOrder R
    → (xs : List X) (b : K) (r : Result ℕ ℕ) → IsSearchInRange r (length xs)
    → IsBinarySearchResult (λ y. R (key y) b) xs r
    → Ordered (λ x y. is_lt (R (key x) (key y)) ≡ true) xs → is_ok r ≡ list_any (λ y. is_eq (R (key y) b)) xs
searched_by key R total xs b (Ok i) range result up = sym (found _ xs i range (λ d. ap is_eq (result d)))
searched_by {X} key R total xs b (Err i) range result up = sym (list_any_none _ xs at)
  where
    order : IsStrictWeakOrder (λ x y. is_lt (R (key x) (key y)))
    order = ranks_by total key

    sorted : IsSortedBy (λ x y. is_lt (R (key x) (key y))) xs
    sorted = λ k d low lt. at_next _ xs (ordered_weaker _ _ order.one_way xs up) k d lt

    at : (k : ℕ) (d : X) → k < length xs → is_eq (R (key (slice_index_or xs k d)) b) ≡ false
    at k d lt =
        let parts = result (searchable_from_sorted total key xs b sorted) in
        elim (cases_lt k i) [
          | inl below ↦ ap is_eq (parts.0 k d (omega arith) below)
          | inr above ↦ ap is_eq (parts.1 k d above lt)
        ]

any_same : {X : Type 0} (p q : X → Bool) → ((x : X) → p x ≡ q x) → (xs : List X) → list_any p xs ≡ list_any q xs
any_same p q h [] = refl
any_same p q h (x ∷ xs) = grind arith

-- Units.

pub units_searched : (units : List UnitNo) (unit : ℕ) (r : Result ℕ ℕ) → IsSearchInRange r (length units)
    → IsBinarySearchResult (λ y. nat_cmp (unit_of y) unit) units r
    → Ordered (λ u v. u < v) (map unit_of units) → is_ok r ≡ list_any (λ v. v == unit) (map unit_of units)
units_searched units unit r range result up =
    searched_by unit_of nat_cmp nat_cmp_total units unit r range result
    (ordered_weaker _ _ (λ u v h. grind arith) units (ordered_unmap _ _ units up)) ∙ grind arith
    ∙ sym (any_map _ _ units)

-- Registrants.

pub registrants_searched : (registrants : List Registrant) (queue : ℕ) (name : List ℕ) (r : Result ℕ ℕ)
    → IsSearchInRange r (length registrants)
    → IsBinarySearchResult (λ y. key_cmp (registrant_key y) (queue, name)) registrants r
    → Ordered (λ a b. registrant_before a b ≡ true) registrants
    → is_ok r ≡ list_any (is_registrant queue name) registrants
registrants_searched registrants queue name r range result up =
    searched_by registrant_key key_cmp key_total _ _ r range result (ordered_weaker _ _ (λ a b h. grind arith) _ up)
    ∙ any_same _ _ (λ r. equal_keys (registrant_key r) (queue, name)) _

-- The registrants of a queue stand together.

not_after : (m n : ℕ) (t : Bool) → (nat_lt m n || ((m == n) && t)) ≡ true → m ≤ n
not_after m n t h = grind (arith, nat_tests, cases_Bool t)

rising : (rs : List Registrant) → Ordered (λ a b. registrant_before a b ≡ true) rs
    → IsNonDecreasingBy (λ (r : Registrant). r.queue) rs
rising rs up = IsNonDecreasingBy-from_all_adjacent (λ (r : Registrant). r.queue) rs
    (at_next (λ (a b : Registrant). a.queue ≤ b.queue) rs
    (ordered_weaker (λ (a b : Registrant). registrant_before a b ≡ true) (λ (a b : Registrant). a.queue ≤ b.queue)
    (λ a b h. not_after a.queue b.queue (name_before a.name b.name) h) rs up))

pub parted_below : (queue : ℕ) (rs : List Registrant) → Ordered (λ a b. registrant_before a b ≡ true) rs
    → IsPartitionedBy (λ (r : Registrant). nat_lt r.queue queue) rs
parted_below queue rs up = IsPartitionedBy-ltb (λ (r : Registrant). r.queue) rs queue (rising rs up)

pub parted_above : (queue i : ℕ) (rs : List Registrant) → Ordered (λ a b. registrant_before a b ≡ true) rs
    → IsPartitionedBy (λ (r : Registrant). nat_le r.queue queue) (drop i rs)
parted_above queue i rs up = IsPartitionedBy-leb (λ (r : Registrant). r.queue) (drop i rs) queue
    (IsNonDecreasingBy-drop (λ (r : Registrant). r.queue) i rs (rising rs up))

abbrev Parts : (Registrant → Bool) → List Registrant → ℕ → Type 0
Parts p rs i = IsPartitionPoint (λ r. p r ≡ true) (λ r. p r ≡ false) rs i

behind : (p : Registrant → Bool) (r : Registrant) (rs : List Registrant) (i : ℕ) → Parts p (r ∷ rs) (suc i)
    → Parts p rs i
behind p r rs i h = (
  λ k d low lt. h.0 (suc k) d (omega arith) (omega arith),
  λ k d low lt. h.1 (suc k) d (omega arith) (omega arith),
)

none_behind : (p : Registrant → Bool) (r : Registrant) (rs : List Registrant) → Parts p (r ∷ rs) 0 → Parts p rs 0
none_behind p r rs h = (λ k d low lt. absurd (omega arith), λ k d low lt. h.1 (suc k) d (omega arith) (omega arith))

-- what the test of the queue gives for the first
first_is : (queue : ℕ) (r : Registrant) (rs : List Registrant) (b : Bool) → (r.queue == queue) ≡ b
    → cond b (r ∷ registrants_at queue rs) (registrants_at queue rs) ≡ registrants_at queue (r ∷ rs)
first_is queue r rs b h = ap (λ t. cond t (r ∷ registrants_at queue rs) (registrants_at queue rs)) (sym h)

is_above : (m n : ℕ) → nat_le m n ≡ false → (m == n) ≡ false
is_above m n h = grind (arith, nat_tests)

is_below : (m n : ℕ) → nat_lt m n ≡ true → (m == n) ≡ false
is_below m n h = grind (arith, nat_tests)

is_at : (m n : ℕ) → nat_lt m n ≡ false → nat_le m n ≡ true → (m == n) ≡ true
is_at m n h k = grind (arith, nat_tests)

front : (queue j : ℕ) (rs : List Registrant) → Parts (λ r. nat_lt r.queue queue) rs 0
    → Parts (λ r. nat_le r.queue queue) rs j → take j rs ≡ registrants_at queue rs
front queue zero [] below upto = refl
front queue (suc j) [] below upto = refl
front queue zero (r ∷ rs) below upto =
    front queue 0 rs (none_behind (λ r. nat_lt r.queue queue) r rs below)
    (none_behind (λ r. nat_le r.queue queue) r rs upto)
    ∙ first_is queue r rs false (is_above r.queue queue (upto.1 0 r (omega arith) (omega arith)))
front queue (suc j) (r ∷ rs) below upto =
    ap (λ (ys : List Registrant). r ∷ ys) (front queue j rs (none_behind (λ r. nat_lt r.queue queue) r rs below)
    (behind (λ r. nat_le r.queue queue) r rs j upto))
    ∙ first_is queue r rs true (is_at r.queue queue (below.1 0 r (omega arith) (omega arith))
    (upto.0 0 r (omega arith) (omega arith)))

pub own_part : (queue i j : ℕ) (rs : List Registrant) → Parts (λ r. nat_lt r.queue queue) rs i
    → Parts (λ r. nat_le r.queue queue) (drop i rs) j → take j (drop i rs) ≡ registrants_at queue rs
own_part queue zero j rs below upto = front queue j rs below upto
own_part queue (suc i) zero [] below upto = refl
own_part queue (suc i) (suc j) [] below upto = refl
own_part queue (suc i) j (r ∷ rs) below upto =
    own_part queue i j rs (behind (λ r. nat_lt r.queue queue) r rs i below) upto
    ∙ first_is queue r rs false (is_below r.queue queue (below.0 0 r (omega arith) (omega arith)))
