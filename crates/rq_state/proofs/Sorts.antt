-- A sorted list of distinct keys is the only one with its members.
use Rattle.std.proofs.Common.{◌≡◌, ℕ, suc, zero, ◌+◌, ◌<◌, ◌≤◌, ◌⊎◌, ⊎_elim, inl, inr, Bool, true, false, cond, not}
use Rattle.std.proofs.Common.{◌&&◌, List, [], ◌∷◌, ◌++◌, length, refl, sym, ap, ◌∙◌, subst, arith}
use Rattle.std.specs.Prelude.{if◌then◌else◌, filter, slice_index_or}
use Rattle.std.specs.List.{Contains, sum_by, AllByRecursion}
use Rattle.std.specs.List.Sorted.{IsPermutation}
use Rattle.std.proofs.lemmas.List.Sums.{sum_by-cons}
use Rattle.std.proofs.lemmas.List.Sorted.{Contains-permutation, IsPermutation-sym, sum_by-IsPermutation}
use Rattle.rq_model.specs.States.{put}
use Rattle.rq_state.specs.Orders.{put_in_order}
use Rattle.rq_model.specs.WellFormed.{Ordered, IsIn}
use Rattle.rq_model.proofs.Lists.{by_cases, each_weaker}

-- how many pass the test
abbrev pub number_of : {X : Type 0} → (X → Bool) → List X → ℕ
number_of p [] = 0
number_of p (x ∷ xs) = (if p x then 1 else 0) + number_of p xs

pub each_in : {X : Type 0} (P : X → Type 0) (xs : List X) → AllByRecursion P xs → (x : X) → IsIn x xs → P x
each_in P [] h x k = absurd k
each_in P (y ∷ ys) h x k = ⊎_elim (λ e. grind arith) (each_in P ys h.1 x) k

pub none_of : {X : Type 0} (p : X → Bool) (xs : List X) → AllByRecursion (λ x. p x ≡ false) xs → number_of p xs ≡ 0
none_of p [] h = refl
none_of p (x ∷ xs) h = grind (arith, none_of p xs h.1)

pub some_of : {X : Type 0} (p : X → Bool) (xs : List X) (x : X) → IsIn x xs → p x ≡ true → 1 ≤ number_of p xs
some_of p [] x k h = absurd k
some_of p (y ∷ ys) x k h = ⊎_elim (λ e. grind arith)
    (λ m. by_cases (p y) (λ b. 1 ≤ (if b then 1 else 0) + number_of p ys) (λ _. omega arith)
    (λ _. omega (arith, some_of p ys x m h))) k

module _ {X : Type 0} (before : X → X → Bool) (irreflexive : (x : X) → before x x ≡ false) where
  -- the same members: as many pass each test
  pub record Same (xs ys : List X) : Type 0 where
    pub members : AllByRecursion (λ y. IsIn y xs) ys
    pub often : (p : X → Bool) → number_of p ys ≡ number_of p xs

  abbrev tie : X → X → Bool
  tie z x = not (before x z) && not (before z x)

  tie_self : (z : X) → tie z z ≡ true
  tie_self z = λ i. not (irreflexive z i) && not (irreflexive z i)

  no_tie : (z x : X) → before z x ≡ true → tie z x ≡ false
  no_tie z x h = ap (λ b. not (before x z) && not b) h ∙ and_false (not (before x z))
    where
      and_false : (b : Bool) → (b && false) ≡ false
      and_false true = refl
      and_false false = refl

  heads : (z y : X) (zs ys : List X) → AllByRecursion (λ x. before z x ≡ true) zs
      → AllByRecursion (λ x. before x y ≡ false) ys → Same (z ∷ zs) (y ∷ ys) → y ≡ z
  heads z y zs ys strict weak same =
      ⊎_elim (λ e. e) (λ m. absurd (clash (each_in (λ x. before z x ≡ true) zs strict y m))) same.members.0
    where
      clash : before z y ≡ true → ⊥
      clash h =
          let none : number_of (λ x. before x y) (y ∷ ys) ≡ 0 =
          none_of (λ x. before x y) (y ∷ ys) (irreflexive y, weak) in
          let some : 1 ≤ number_of (λ x. before x y) (z ∷ zs) = some_of (λ x. before x y) (z ∷ zs) z (inl refl) h in
          let both : number_of (λ x. before x y) (y ∷ ys) ≡ number_of (λ x. before x y) (z ∷ zs) =
          same.often (λ x. before x y) in
          omega (arith, none, some, both)

  tails : (z y : X) (zs ys : List X) → AllByRecursion (λ x. before z x ≡ true) zs → y ≡ z → Same (z ∷ zs) (y ∷ ys)
      → Same zs ys
  tails z y zs ys strict e same =
      record {
        members = keep ys (λ w m. m) same.members.1;
        often =
            λ p. cancel (if p z then 1 else 0) (number_of p ys) (number_of p zs) (level p);
      }
    where
      cancel : (a b c : ℕ) → a + b ≡ a + c → b ≡ c
      cancel a b c h = omega (arith, h)

      level : (p : X → Bool) → (if p z then 1 else 0) + number_of p ys ≡ (if p z then 1 else 0) + number_of p zs
      level p = subst (λ v. (if p v then 1 else 0) + number_of p ys ≡ (if p z then 1 else 0) + number_of p zs) e
          (same.often p)

      twice : (w : X) → IsIn w ys → w ≡ z → ⊥
      twice w m i =
          let some : 1 ≤ number_of (tie z) ys =
          some_of (tie z) ys w m (subst (λ v. tie z v ≡ true) (sym i) (tie_self z)) in
          let none : number_of (tie z) zs ≡ 0 =
          none_of (tie z) zs (each_weaker (λ x. before z x ≡ true) (λ x. tie z x ≡ false)
          (no_tie z) zs strict) in
          let both : number_of (tie z) ys ≡ number_of (tie z) zs =
          cancel (if tie z z then 1 else 0) (number_of (tie z) ys) (number_of (tie z) zs) (level (tie z)) in
          omega (arith, some, none, both)

      keep : (ws : List X) → ((w : X) → IsIn w ws → IsIn w ys) → AllByRecursion (λ v. IsIn v (z ∷ zs)) ws
          → AllByRecursion (λ v. IsIn v zs) ws
      keep [] f h = tt
      keep (w ∷ ws) f h =
          (⊎_elim (λ i. absurd (twice w (f w (inl refl)) i)) (λ m. m) h.0, keep ws (λ v m. f v (inr m)) h.1)

  -- a list in weak order with the members of a list in strict order is that list
  pub only_order : (zs ys : List X) → Ordered (λ a b. before a b ≡ true) zs → Ordered (λ a b. before b a ≡ false) ys
      → Same zs ys → ys ≡ zs
  only_order [] [] strict weak same = refl
  only_order [] (y ∷ ys) strict weak same = absurd same.members.0
  only_order (z ∷ zs) [] strict weak same = let n : 0 ≡ 1 + number_of (λ _. true) zs = same.often (λ _. true) in
      let no : ⊥ = omega (arith, n) in absurd no
  only_order (z ∷ zs) (y ∷ ys) strict weak same =
      let e : y ≡ z = heads z y zs ys strict.0 weak.0 same in
      let rest : ys ≡ zs = only_order zs ys strict.1 weak.1 (tails z y zs ys strict.0 e same) in
      λ i. e i ∷ rest i

-- What a sort gives.

pub number_sum : {X : Type 0} (p : X → Bool) (xs : List X) → number_of p xs ≡ sum_by (λ x. if p x then 1 else 0) xs
number_sum p [] = refl
number_sum p (x ∷ xs) = ap (λ n. (if p x then 1 else 0) + n) (number_sum p xs) ∙ sym (sum_by-cons _ x xs)

pub in_of_contains : {X : Type 0} (xs : List X) (x : X) (k : ℕ) → k < length xs → slice_index_or xs k x ≡ x → IsIn x xs
in_of_contains [] x k h e = grind arith
in_of_contains (y ∷ ys) x zero h e = inl (sym e)
in_of_contains (y ∷ ys) x (suc k) h e = inr (in_of_contains ys x k (omega arith) e)

pub contains_of_in : {X : Type 0} (xs : List X) (x : X) → IsIn x xs → Contains xs x
contains_of_in [] x h = absurd h
contains_of_in (y ∷ ys) x h = ⊎_elim (λ e. grind arith)
    (λ m. let c = contains_of_in ys x m in (suc c.0, omega arith, c.2)) h

pub each_self : {X : Type 0} (P : X → Type 0) (ys ws : List X) → ((w : X) → IsIn w ws → IsIn w ys)
    → ((w : X) → IsIn w ys → P w) → AllByRecursion P ws
each_self P ys [] f g = tt
each_self P ys (w ∷ ws) f g = (grind arith, each_self P ys ws (λ v m. f v (inr m)) g)

in_append : {X : Type 0} (x : X) (xs ys : List X) → IsIn x xs ⊎ IsIn x ys → IsIn x (xs ++ ys)
in_append x [] ys h = grind arith
in_append x (y ∷ xs) ys h = ⊎_elim (⊎_elim inl (λ m. inr (in_append x xs ys (inl m))))
    (λ m. inr (in_append x xs ys (inr m))) h

pub number_append : {X : Type 0} (p : X → Bool) (xs ys : List X)
    → number_of p (xs ++ ys) ≡ number_of p xs + number_of p ys
number_append p [] ys = omega arith
number_append p (x ∷ xs) ys = ap (λ n. (if p x then 1 else 0) + n) (number_append p xs ys) ∙ omega arith

in_filter : {X : Type 0} (p : X → Bool) (x : X) (xs : List X) → IsIn x xs → p x ≡ true → IsIn x (filter p xs)
in_filter p x [] h t = absurd h
in_filter p x (y ∷ ys) h t = by_cases (p y) (λ b. p y ≡ b → IsIn x (cond b (y ∷ filter p ys) (filter p ys)))
    (λ _ _. ⊎_elim inl (λ m. inr (in_filter p x ys m t)) h)
    (λ _ n. ⊎_elim (λ e. grind arith) (λ m. in_filter p x ys m t) h) refl

pub number_filters : {X : Type 0} (p q : X → Bool) (xs : List X)
    → number_of p (filter q xs) + number_of p (filter (λ y. not (q y)) xs) ≡ number_of p xs
number_filters p q [] = refl
number_filters p q (x ∷ xs) = by_cases (q x)
    (λ b. number_of p (cond b (x ∷ filter q xs) (filter q xs))
    + number_of p (cond (not b) (x ∷ filter (λ y. not (q y)) xs) (filter (λ y. not (q y)) xs))
    ≡ (if p x then 1 else 0) + number_of p xs) (λ _. first _ _ _ _ (number_filters p q xs))
    (λ _. second _ _ _ _ (number_filters p q xs))
  where
    first : (a b c d : ℕ) → b + c ≡ d → (a + b) + c ≡ a + d
    first a b c d h = omega arith

    second : (a b c d : ℕ) → b + c ≡ d → b + (a + c) ≡ a + d
    second a b c d h = omega arith

module _ {X : Type 0} (before : X → X → Bool) (irreflexive : (x : X) → before x x ≡ false) where
  in_put : (x y : X) (zs : List X) → IsIn y (x ∷ zs) → IsIn y (put before x zs)
  in_put x y zs h = in_append y (filter (λ z. before z x) zs) (x ∷ filter (λ z. not (before z x)) zs)
      (⊎_elim (λ e. inr (inl e)) there h)
    where
      there : IsIn y zs → IsIn y (filter (λ z. before z x) zs) ⊎ IsIn y (x ∷ filter (λ z. not (before z x)) zs)
      there m = by_cases (before y x)
          (λ b. before y x ≡ b → IsIn y (filter (λ z. before z x) zs) ⊎ IsIn y (x ∷ filter (λ z. not (before z x)) zs))
          (λ _ e. inl (in_filter (λ z. before z x) y zs m e))
          (λ _ e. inr (inr (in_filter (λ z. not (before z x)) y zs m (ap not e)))) refl

  pub in_put_each : (xs : List X) (y : X) → IsIn y xs → IsIn y (put_in_order before xs)
  in_put_each [] y h = h
  in_put_each (x ∷ xs) y h = in_put x y (put_in_order before xs) (⊎_elim (λ e. inl e) (λ m. inr (in_put_each xs y m)) h)

  pub number_put_each : (p : X → Bool) (xs : List X) → number_of p (put_in_order before xs) ≡ number_of p xs
  number_put_each p [] = refl
  number_put_each p (x ∷ xs) =
      number_append p (filter (λ z. before z x) (put_in_order before xs))
      (x ∷ filter (λ z. not (before z x)) (put_in_order before xs))
      ∙ shift (if p x then 1 else 0) (number_of p (filter (λ z. before z x) (put_in_order before xs)))
      (number_of p (filter (λ z. not (before z x)) (put_in_order before xs))) (number_of p (put_in_order before xs))
      (number_filters p (λ z. before z x) (put_in_order before xs))
      ∙ ap (λ n. (if p x then 1 else 0) + n) (number_put_each p xs)
    where
      shift : (a b c d : ℕ) → b + c ≡ d → b + (a + c) ≡ a + d
      shift a b c d h = omega (arith, h)

  -- if the keys are distinct, a sort leaves what putting each in gives
  pub sorted_is : (xs ys : List X) → IsPermutation xs ys → Ordered (λ a b. before b a ≡ false) ys
      → Ordered (λ a b. before a b ≡ true) (put_in_order before xs) → ys ≡ put_in_order before xs
  sorted_is xs ys moved weak strict = only_order before irreflexive (put_in_order before xs) ys strict weak (record {
    members = each_self (λ y. IsIn y (put_in_order before xs)) ys ys (λ w m. m)
        (λ w m. let c = Contains-permutation ys xs w (IsPermutation-sym xs ys moved) (contains_of_in ys w m) in
        in_put_each xs w (in_of_contains xs w c.0 c.1 c.2));
    often = λ p. number_sum p ys ∙ sum_by-IsPermutation (λ x. if p x then 1 else 0) xs ys moved ∙ sym (number_sum p xs)
        ∙ sym (number_put_each p xs);
  })
