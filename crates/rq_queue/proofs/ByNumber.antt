-- Members of a list by number. That list is the same, whatever the order in which they are put in.
use Rattle.std.proofs.Common.{◌≡◌, ◌≢◌, ℕ, ◌<◌, ◌==◌, Bool, true, false, cond, not, List, [], ◌∷◌, ◌++◌}
use Rattle.std.proofs.Common.{refl, sym, ap, ◌∙◌, arith, append_assoc}
use Rattle.std.specs.Prelude.{nat_lt}
use Rattle.std.specs.List.{filter, AllByRecursion, IsDistinct}
use Rattle.std.specs.List.Sorted.{IsPermutation}
use Rattle.std.proofs.lemmas.Bool.{lt-ltb, le-ltb, ltb-true, ltb-false, ne_eqb, eqb-false, not-true}
use Rattle.std.proofs.lemmas.List.Elements.{filter-append, All-from_recursion, recursion_from_All}
use Rattle.std.proofs.lemmas.List.Sorted.{All-permutation, IsPermutation-append_comm, IsPermutation-append_left}
use Rattle.std.proofs.lemmas.List.Sorted.{IsPermutation-cons, IsPermutation-filter_both, IsPermutation-middle}
use Rattle.std.proofs.lemmas.List.Sorted.{IsPermutation-refl, IsPermutation-sym, IsPermutation-trans}
use Rattle.std.proofs.lemmas.Map.Keys.{IsDistinct-IsPermutation}
use Rattle.rq_model.specs.States.{put}
use Rattle.rq_model.specs.WellFormed.{Ordered}
use Rattle.rq_model.proofs.Lists.{by_cases, each_passes, each_weaker, filter_all, filter_comm, filter_none}
use Rattle.rq_model.proofs.Merged.{ordered_append, ordered_filter, ordered_weaker}
use Rattle.rq_model.proofs.Restarts.{each_cut}
use Rattle.rq_state.specs.Orders.{put_in_order}
use Rattle.rq_state.proofs.InOrder.{number_is_order}
use Rattle.rq_state.proofs.Whole.{whole_permuted}

-- Members of any kind.

pub each_moved : {X : Type 0} (P : X → Type 0) (xs ys : List X) → IsPermutation xs ys → AllByRecursion P xs
    → AllByRecursion P ys
each_moved P xs ys same h = recursion_from_All P ys (All-permutation P xs ys same (All-from_recursion P xs h))

pub each_front : {X : Type 0} (P : X → Type 0) (xs ys : List X) → AllByRecursion P (xs ++ ys) → AllByRecursion P xs
each_front P xs ys h = (each_cut P xs ys h).0

pub each_back : {X : Type 0} (P : X → Type 0) (xs ys : List X) → AllByRecursion P (xs ++ ys) → AllByRecursion P ys
each_back P xs ys h = (each_cut P xs ys h).1

-- of a list in order, all before a member stand in the relation to it
pub all_before : {X : Type 0} (R : X → X → Type 0) (xs : List X) (x : X) (ys : List X) → Ordered R (xs ++ x ∷ ys)
    → AllByRecursion (λ z. R z x) xs
all_before R [] x ys h = tt
all_before R (z ∷ xs) x ys h = ((each_back (R z) xs (x ∷ ys) h.0).0, all_before R xs x ys h.1)

pub each_filtered : {X : Type 0} (P Q : X → Type 0) (p : X → Bool) → ((x : X) → P x → p x ≡ true → Q x) → (xs : List X)
    → AllByRecursion P xs → AllByRecursion Q (filter p xs)
each_filtered P Q p f [] h = tt
each_filtered P Q p f (x ∷ xs) h =
    by_cases (p x) (λ b. AllByRecursion Q (cond b (x ∷ filter p xs) (filter p xs)))
    (λ t. (f x h.0 t, each_filtered P Q p f xs h.1)) (λ _. each_filtered P Q p f xs h.1)

-- two lists in either order
pub between : {X : Type 0} (a b c : List X) → IsPermutation (a ++ (b ++ c)) (b ++ (a ++ c))
between a b c = rw (← append_assoc a b c, ← append_assoc b a c)
    (IsPermutation-append_left c (a ++ b) (b ++ a) (IsPermutation-append_comm a b))

-- put in one after another, the members are the same
pub put_each_permutes : {X : Type 0} (before : X → X → Bool) (xs : List X) → IsPermutation xs (put_in_order before xs)
put_each_permutes before [] = IsPermutation-refl []
put_each_permutes before (x ∷ xs) =
    let rest = put_in_order before xs in
    IsPermutation-trans _ _ _
    (IsPermutation-cons x _ _
    (IsPermutation-trans xs rest _ (put_each_permutes before xs)
    (IsPermutation-filter_both (λ y. before y x) (λ y. not (before y x)) (λ y. refl) rest)))
    (IsPermutation-sym _ _ (IsPermutation-middle (filter (λ y. before y x) rest) x _))

module _ {X : Type 0} (n : X → ℕ) where
  abbrev pub before : X → X → Bool
  before a b = nat_lt (n a) (n b)

  -- no two have one number
  abbrev pub Apart : List X → Type 0
  Apart xs = Ordered (λ a b. n a ≢ n b) xs

  abbrev pub Rising : List X → Type 0
  Rising xs = Ordered (λ a b. n a < n b) xs

  abbrev pub by_number : List X → List X
  by_number xs = put_in_order before xs

  -- Numbers differ in any order.

  differing : (xs : List X) → Apart xs → IsDistinct (λ (a b : X). n a == n b) xs
  unfolding IsDistinct
  differing [] h = tt
  differing (x ∷ xs) h = (
    each_weaker (λ y. n x ≢ n y) (λ y. (n x == n y) ≡ false)
        (λ y o. ne_eqb (n x) (n y) o) xs h.0,
    differing xs h.1,
  )

  apart_again : (xs : List X) → IsDistinct (λ (a b : X). n a == n b) xs → Apart xs
  unfolding IsDistinct
  apart_again [] h = tt
  apart_again (x ∷ xs) h = (
    each_weaker (λ y. (n x == n y) ≡ false) (λ y. n x ≢ n y) (λ y f. eqb-false (n x) (n y) f) xs h.0,
    apart_again xs h.1,
  )

  pub apart_moved : (xs ys : List X) → IsPermutation xs ys → Apart xs → Apart ys
  apart_moved xs ys same h = apart_again ys
      (IsDistinct-IsPermutation (λ (a b : X). n a == n b) flips xs ys same (differing xs h))
    where
      flips : (x y : X) → (n x == n y) ≡ (n y == n x)
      flips x y = grind arith

  pub apart_front : (xs ys : List X) → Apart (xs ++ ys) → Apart xs
  apart_front [] ys h = tt
  apart_front (x ∷ xs) ys h = (each_front (λ z. n x ≢ n z) xs ys h.0, apart_front xs ys h.1)

  pub each_sorted : (P : X → Type 0) (xs : List X) → AllByRecursion P xs → AllByRecursion P (by_number xs)
  each_sorted P xs h = each_moved P xs (by_number xs) (put_each_permutes before xs) h

  pub each_unsorted : (P : X → Type 0) (xs : List X) → AllByRecursion P (by_number xs) → AllByRecursion P xs
  each_unsorted P xs h = each_moved P _ xs (IsPermutation-sym _ _ (put_each_permutes before xs)) h

  -- and their numbers rise
  rising_put : (x : X) (xs : List X) → AllByRecursion (λ y. n x ≢ n y) xs → Rising xs → Rising (put before x xs)
  rising_put x xs d h = ordered_append (λ (a b : X). n a < n b) (filter (λ y. before y x) xs)
      (x ∷ filter (λ y. not (before y x)) xs)
      (ordered_filter (λ (a b : X). n a < n b) (λ y. before y x) xs h)
      (above, ordered_filter (λ (a b : X). n a < n b) (λ y. not (before y x)) xs h)
      (each_passes (λ y. AllByRecursion (λ z. n y < n z) (x ∷ filter (λ z. not (before z x)) xs)) (λ y. before y x)
      (λ y t. let l = ltb-true (n y) (n x) t in (
        l,
        each_weaker (λ z. n x < n z) (λ z. n y < n z) (λ z m. omega arith) (filter (λ z. not (before z x)) xs) above,
      )) xs)
    where
      other : (y : X) → n x ≢ n y → not (before y x) ≡ true → n x < n y
      other y o t = let l = ltb-false (n y) (n x) (not-true (before y x) t) in omega arith

      above : AllByRecursion (λ y. n x < n y) (filter (λ y. not (before y x)) xs)
      above = each_filtered (λ y. n x ≢ n y) (λ y. n x < n y) (λ y. not (before y x)) other xs d

  pub rising_sorted : (xs : List X) → Apart xs → Rising (by_number xs)
  rising_sorted [] h = tt
  rising_sorted (x ∷ xs) h = rising_put x (by_number xs) (each_sorted (λ y. n x ≢ n y) xs h.0) (rising_sorted xs h.1)

  pub rising_apart : (xs : List X) → Rising xs → Apart xs
  rising_apart xs h = ordered_weaker (λ (a b : X). n a < n b) (λ (a b : X). n a ≢ n b)
      (λ a b l e. absurd (omega (arith, l, e))) xs h

  -- members whose numbers rise are what the same members are by number
  pub rising_is : (zs xs : List X) → Rising zs → IsPermutation zs xs → by_number xs ≡ zs
  rising_is zs xs h same = whole_permuted before (number_is_order n) zs xs
      (ordered_weaker (λ (a b : X). n a < n b) (λ (a b : X). before a b ≡ true) (λ a b l. lt-ltb (n a) (n b) l) zs h)
      same

  pub sorted_moved : (xs ys : List X) → IsPermutation xs ys → Apart xs → by_number xs ≡ by_number ys
  sorted_moved xs ys same h = sym (rising_is (by_number xs) ys (rising_sorted xs h)
      (IsPermutation-trans _ xs ys (IsPermutation-sym _ _ (put_each_permutes before xs)) same))

  -- A filter takes members out of the list by number.

  without : (p : X → Bool) (x : X) (xs : List X) → p x ≡ true
      → filter p (put before x xs) ≡ put before x (filter p xs)
  without p x xs h = filter-append p (filter (λ y. before y x) xs) (x ∷ filter (λ y. not (before y x)) xs)
      ∙ (λ i. filter_comm p (λ y. before y x) xs i
      ++ cond (h i) (x ∷ filter_comm p (λ y. not (before y x)) xs i) (filter_comm p (λ y. not (before y x)) xs i))

  outside : (p q : X → Bool) → (xs : List X) (x : X) → q x ≡ false
      → filter q (filter p xs ++ x ∷ filter (λ y. not (p y)) xs) ≡ filter q (filter p xs ++ filter (λ y. not (p y)) xs)
  outside p q xs x h = filter-append q (filter p xs) (x ∷ filter (λ y. not (p y)) xs)
      ∙ ((λ i. filter q (filter p xs) ++ cond (h i) (x ∷ filter q (filter (λ y. not (p y)) xs))
      (filter q (filter (λ y. not (p y)) xs))) ∙ sym (filter-append q (filter p xs) (filter (λ y. not (p y)) xs)))

  -- a rising list is its part before a number, and then the rest
  halves : (x : X) (xs : List X) → Rising xs
      → filter (λ y. before y x) xs ++ filter (λ y. not (before y x)) xs ≡ xs
  halves x [] h = refl
  halves x (y ∷ ys) h = by_cases (nat_lt (n y) (n x))
      (λ b. cond b (y ∷ filter (λ z. before z x) ys) (filter (λ z. before z x) ys)
      ++ cond (not b) (y ∷ filter (λ z. not (before z x)) ys) (filter (λ z. not (before z x)) ys) ≡ y ∷ ys)
      (λ _. ap (λ (zs : List X). y ∷ zs) (halves x ys h.1))
      (λ o i. filter_none (λ z. before z x) ys
      (each_weaker (λ z. n y < n z) (λ z. before z x ≡ false)
      (λ z l. le-ltb (n z) (n x) (omega (arith, ltb-false (n y) (n x) o))) ys h.0) i
      ++ y ∷ filter_all (λ z. not (before z x)) ys
      (each_weaker (λ z. n y < n z) (λ z. not (before z x) ≡ true)
      (λ z l. ap not (le-ltb (n z) (n x) (omega (arith, ltb-false (n y) (n x) o)))) ys h.0) i)

  pub filter_sorted : (p : X → Bool) (xs : List X) → Apart xs → filter p (by_number xs) ≡ by_number (filter p xs)
  filter_sorted p [] h = refl
  filter_sorted p (x ∷ xs) h = by_cases (p x)
      (λ b. p x ≡ b → filter p (put before x (by_number xs)) ≡ by_number (cond b (x ∷ filter p xs) (filter p xs)))
      (λ t u. without p x (by_number xs) u ∙ ap (put before x) (filter_sorted p xs h.1))
      (λ t u. outside (λ y. before y x) p (by_number xs) x u
      ∙ (ap (filter p) (halves x (by_number xs) (rising_sorted xs h.1)) ∙ filter_sorted p xs h.1)) refl
