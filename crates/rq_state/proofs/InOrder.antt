-- What std's sort leaves is the list with each member put in.
use Rattle.std.proofs.Common.{◌≡◌, ℕ, suc, ◌+◌, ◌<◌, Bool, true, false, List, [], ◌∷◌, length, map}
use Rattle.std.proofs.Common.{refl, sym, ◌∙◌, subst, arith}
use Rattle.std.specs.Prelude.{◌==◌, ◌&&◌, nat_eq, nat_lt, slice_index_or}
use Rattle.std.specs.List.{AllByRecursion}
use Rattle.std.specs.List.Sorted.{IsPermutation, IsSortedBy, IsSortedByKey}
use Rattle.std.specs.Ordering.{is_lt, is_eq, nat_cmp, ordering_then}
use Rattle.std.specs.declared.cmp.Ordering.{Ordering}
use Rattle.std.specs.declared.cmp.Ordering.TheVariants.{Less, Equal, Greater}
use Rattle.std.specs.Cmp.{IsStrictWeakOrder, IsTotalOrder}
use Rattle.std.specs.Cmp.Lexicographic.{slice_cmp, pointwise, nat_list_cmp_total}
use Rattle.std.proofs.lemmas.Cmp.{nat_cmp_total, on_total, then_total}
use Rattle.std.proofs.lemmas.Bool.{lt-ltb}
use Rattle.std.proofs.lemmas.Map.Text.{is_eq-slice_cmp}
use Rattle.std.proofs.lemmas.List.Sorted.{sorted_far, ranks_by, IsPermutation-map}
use Rattle.rq_model.specs.States.{Registrant, registrant_before}
use Rattle.rq_model.specs.WellFormed.{Ordered}
use Rattle.rq_model.proofs.Merged.{ordered_weaker}
use Rattle.rq_model.specs.Laws.{registrant_key}
use Rattle.rq_state.specs.Orders.{put_in_order, key_cmp}
use Rattle.rq_state.proofs.Sorts.{sorted_is}

each_at : {X : Type 0} (P : X → Type 0) (d : X) (xs : List X) → ((k : ℕ) → k < length xs → P (slice_index_or xs k d))
    → AllByRecursion P xs
each_at P d [] h = tt
each_at P d (x ∷ xs) h = (h 0 (omega arith), each_at P d xs (λ k l. h (suc k) (omega arith)))

-- neighbours in order: any two in order
pub pairwise : {X : Type 0} (lt : X → X → Bool) → IsStrictWeakOrder lt → (xs : List X) → IsSortedBy lt xs
    → Ordered (λ a b. lt b a ≡ false) xs
pairwise lt o [] up = tt
pairwise lt o (x ∷ xs) up = (
  each_at _ x xs (λ k l. sorted_far lt o (x ∷ xs) up 0 (suc k) x (omega arith) (omega arith)),
  pairwise lt o xs (λ k d _ l. subst (λ m. lt (slice_index_or (x ∷ xs) m d) (slice_index_or xs k d) ≡ false) (up_one k)
      (grind arith)),
)
  where
    up_one : (k : ℕ) → suc k + 1 ≡ suc (k + 1)
    up_one k = omega arith

pub ordered_map : {X Y : Type 0} (R : Y → Y → Type 0) (f : X → Y) (xs : List X) → Ordered (λ a b. R (f a) (f b)) xs
    → Ordered R (map f xs)
ordered_map R f [] h = tt
ordered_map R f (x ∷ xs) h = (each_through _ f xs h.0, ordered_map R f xs h.1)
  where
    each_through : {X Y : Type 0} (P : Y → Type 0) (f : X → Y) (xs : List X) → AllByRecursion (λ x. P (f x)) xs
        → AllByRecursion P (map f xs)
    each_through P f [] h = tt
    each_through P f (x ∷ xs) h = (h.0, each_through P f xs h.1)

pub is_lt-nat_cmp : (x y : ℕ) → is_lt (nat_cmp x y) ≡ nat_lt x y
is_lt-nat_cmp x y = grind arith

below_self : (n : ℕ) → nat_lt n n ≡ false
below_self n = grind arith

-- a sort by a key whose order is `before`
pub order_is : {X K : Type 0} (before : X → X → Bool) (key : X → K) (R : K → K → Ordering) → IsTotalOrder R
    → ((a b : X) → is_lt (R (key a) (key b)) ≡ before a b) → (xs ys : List X)
    → IsPermutation xs ys → IsSortedByKey key R ys → Ordered (λ a b. before a b ≡ true) (put_in_order before xs)
    → ys ≡ put_in_order before xs
order_is before key R total same xs ys moved up strict =
    sorted_is before (λ x. grind arith) xs ys moved
    (ordered_weaker _ _ (λ a b h. grind arith) ys (pairwise _ (ranks_by total key) ys up)) strict

-- by a number
pub numbers_are : {X : Type 0} (n : X → ℕ) (xs ys : List X) → IsPermutation xs ys → IsSortedByKey n nat_cmp ys
    → Ordered (λ a b. n a < n b) (put_in_order (λ a b. nat_lt (n a) (n b)) xs)
    → ys ≡ put_in_order (λ a b. nat_lt (n a) (n b)) xs
numbers_are n xs ys moved up strict =
    order_is _ n nat_cmp nat_cmp_total (λ a b. grind arith) xs ys moved up
    (ordered_weaker _ _ (λ a b h. grind arith) _ strict)

-- numbers, by what they are the numbers of
pub mapped_are : {X : Type 0} (n : X → ℕ) (xs ys : List X) → IsPermutation xs ys → IsSortedByKey n nat_cmp ys
    → Ordered (λ a b. a < b) (put_in_order nat_lt (map n xs)) → map n ys ≡ put_in_order nat_lt (map n xs)
mapped_are n xs ys moved up strict =
    sorted_is nat_lt below_self (map n xs) (map n ys) (IsPermutation-map n xs ys moved)
    (ordered_map _ n ys
    (ordered_weaker _ _ (λ a b h. sym (is_lt-nat_cmp (n b) (n a)) ∙ h) ys
    (pairwise _ (ranks_by nat_cmp_total n) ys up))) (ordered_weaker _ _ lt-ltb _ strict)

-- Registrants, by queue and name.

pub key_total : IsTotalOrder key_cmp
key_total = then_total (grind arith) (on_total (λ k. k.1) nat_list_cmp_total)

both_equal : (o p : Ordering) → is_eq (ordering_then o p) ≡ (is_eq o && is_eq p)
both_equal Less p = refl
both_equal Equal p = refl
both_equal Greater p = refl

pub equal_numbers : (a b : ℕ) → is_eq (nat_cmp a b) ≡ (a == b)
equal_numbers a b = grind arith

pub equal_keys : (a b : ℕ × List ℕ) → is_eq (key_cmp a b) ≡ ((a.0 == b.0) && pointwise nat_eq a.1 b.1)
equal_keys a b = both_equal (nat_cmp a.0 b.0) (slice_cmp nat_cmp a.1 b.1)
    ∙ (λ i. equal_numbers a.0 b.0 i && is_eq-slice_cmp a.1 b.1 i)

pub is_lt-key_cmp : (a b : Registrant) → is_lt (key_cmp (registrant_key a) (registrant_key b)) ≡ registrant_before a b
is_lt-key_cmp a b = grind arith

pub registrants_are : (xs ys : List Registrant) → IsPermutation xs ys → IsSortedByKey registrant_key key_cmp ys
    → Ordered (λ a b. registrant_before a b ≡ true) (put_in_order registrant_before xs)
    → ys ≡ put_in_order registrant_before xs
registrants_are xs ys moved up strict = order_is _ registrant_key key_cmp key_total is_lt-key_cmp xs ys moved up strict

-- The orders.

order_of : {X K : Type 0} (before : X → X → Bool) (key : X → K) (R : K → K → Ordering) → IsTotalOrder R
    → ((a b : X) → is_lt (R (key a) (key b)) ≡ before a b) → IsStrictWeakOrder before
order_of before key R total same = grind arith

pub number_is_order : {X : Type 0} (n : X → ℕ) → IsStrictWeakOrder (λ a b. nat_lt (n a) (n b))
number_is_order n = grind arith

pub registrant_is_order : IsStrictWeakOrder registrant_before
registrant_is_order = order_of _ registrant_key key_cmp key_total is_lt-key_cmp
