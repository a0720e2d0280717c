-- A queue's free elements, put in order by a sort, are its listing.
use Rattle.std.proofs.Common.{◌≡◌, ◌≢◌, ⊎_elim, inl, inr, ℕ, ◌+◌, ◌<◌, ◌≤◌, Bool, true, false, cond, ◌&&◌}
use Rattle.std.proofs.Common.{◌||◌, List, [], ◌∷◌, ◌++◌, length, take, drop, map, refl, sym, ap, ◌∙◌, subst, arith, Bor}
use Rattle.std.specs.Prelude.{nat_lt, nat_le, ◌==◌, if◌then◌else◌, filter}
use Rattle.std.specs.List.{AllByRecursion, sum_by}
use Rattle.std.specs.List.Sorted.{IsPermutation, IsSortedBy}
use Rattle.std.specs.Ordering.{is_lt, nat_cmp, ordering_then}
use Rattle.std.specs.declared.cmp.Ordering.{Ordering}
use Rattle.std.specs.declared.cmp.Ordering.TheVariants.{Less, Equal, Greater}
use Rattle.std.specs.Cmp.{IsTotalOrder, back_total}
use Rattle.std.proofs.lemmas.Bool.{false≢true, eqb-true, ltb-false, le-leb, eq-eqb}
use Rattle.std.proofs.lemmas.Cmp.{nat_cmp_total, on_total, then_total}
use Rattle.std.proofs.lemmas.List.{take_at}
use Rattle.std.proofs.lemmas.List.Sums.{sum_by-cons}
use Rattle.std.proofs.lemmas.List.Sorted.{ranks_by, IsPermutation-map, IsPermutation-sym}
use Rattle.std.proofs.lemmas.List.Sorted.{Contains-permutation, sum_by-IsPermutation, length_permutation}
use Rattle.rq_model.specs.Machine.{is_free_at, comes_first}
use Rattle.rq_model.specs.Reports.{IsListing, Precedes}
use Rattle.rq_model.specs.States.{Element}
use Rattle.rq_model.specs.WellFormed.{Ordered, IsIn}
use Rattle.rq_model.proofs.Lists.{by_cases, each_weaker, each_both}
use Rattle.rq_model.proofs.Merged.{ordered_filter, ordered_weaker}
use Rattle.rq_state.proofs.InOrder.{ordered_map, pairwise}
use Rattle.rq_state.proofs.Sorts.{in_of_contains, contains_of_in}
use Rattle.rq_report.specs.Pieces.{is_ahead}

-- Two lists in order.

ordered_both : {X : Type 0} (R S T : X → X → Type 0) → ((x y : X) → R x y → S x y → T x y) → (xs : List X)
    → Ordered R xs → Ordered S xs → Ordered T xs
ordered_both R S T f [] h k = tt
ordered_both R S T f (x ∷ xs) h k = (
  each_weaker (λ y. R x y × S x y) (T x) (λ y b. f x y b.0 b.1) xs (each_both (R x) (S x) xs h.0 k.0),
  ordered_both R S T f xs h.1 k.1,
)

-- Elements of distinct numbers.

-- how many have the number
abbrev times : ℕ → List Element → ℕ
times id [] = 0
times id (e ∷ es) = (if e.id == id then 1 else 0) + times id es

times_sum : (id : ℕ) (es : List Element) → times id es ≡ sum_by (λ e. if e.id == id then 1 else 0) es
times_sum id [] = refl
times_sum id (e ∷ es) = ap (λ n. (if e.id == id then 1 else 0) + n) (times_sum id es)
    ∙ sym (sum_by-cons (λ f. if f.id == id then 1 else 0) e es)

no_times : (id : ℕ) (es : List Element) → AllByRecursion (λ e. id < e.id) es → times id es ≡ 0
no_times id [] h = refl
no_times id (e ∷ es) h = by_cases (e.id == id) (λ b. (if b then 1 else 0) + times id es ≡ 0)
    (λ t. let same : e.id ≡ id = eqb-true e.id id t in let no : ⊥ = omega (arith, same, h.0) in absurd no)
    (λ _. omega (arith, no_times id es h.1))

once : (id : ℕ) (es : List Element) → Ordered (λ e f. e.id < f.id) es → times id es ≤ 1
once id [] h = omega arith
once id (e ∷ es) h = by_cases (e.id == id) (λ b. (if b then 1 else 0) + times id es ≤ 1)
    (λ t. let none : times id es ≡ 0 =
    no_times id es (subst (λ n. AllByRecursion (λ f. n < f.id) es) (eqb-true e.id id t) h.0) in omega (arith, none))
    (λ _. omega (arith, once id es h.1))

apart_from : (id : ℕ) (es : List Element) → times id es ≡ 0 → AllByRecursion (λ f. id ≢ f.id) es
apart_from id [] h = tt
apart_from id (e ∷ es) h = (
  λ s. let one : ◌≡◌ {A = ℕ} (if e.id == id then 1 else 0) 1 = ap (λ b. if b then 1 else 0) (eq-eqb e.id id (sym s)) in
      let no : ⊥ = omega (arith, h, one) in absurd no,
  apart_from id es (omega (arith, h)),
)

apart : (es : List Element) → ((id : ℕ) → times id es ≤ 1) → Ordered (λ e f. e.id ≢ f.id) es
apart [] h = tt
apart (e ∷ es) h =
    let one : ◌≡◌ {A = ℕ} (if e.id == e.id then 1 else 0) 1 = ap (λ b. if b then 1 else 0) (eq-eqb e.id e.id refl) in
    let here : times e.id (e ∷ es) ≤ 1 = h e.id in (
      apart_from e.id es (omega (arith, here, one)),
      apart es (λ id. fewer (if e.id == id then 1 else 0) (times id es) (h id)),
    )
  where
    fewer : (a b : ℕ) → a + b ≤ 1 → b ≤ 1
    fewer a b l = omega (arith, l)

-- The members.

pub filter_both : {X : Type 0} (p q : X → Bool) (xs : List X) → filter p (filter q xs) ≡ filter (λ x. p x && q x) xs
filter_both p q [] = refl
filter_both p q (x ∷ xs) = by_cases (q x)
    (λ b. filter p (cond b (x ∷ filter q xs) (filter q xs))
    ≡ cond (p x && b) (x ∷ filter (λ y. p y && q y) xs) (filter (λ y. p y && q y) xs))
    (λ _. by_cases (p x) (λ b. cond b (x ∷ filter p (filter q xs)) (filter p (filter q xs))
    ≡ cond (b && true) (x ∷ filter (λ y. p y && q y) xs) (filter (λ y. p y && q y) xs))
    (λ _. ap (λ v. x ∷ v) (filter_both p q xs)) (λ _. filter_both p q xs))
    (λ _. by_cases (p x) (λ b. filter p (filter q xs)
    ≡ cond (b && false) (x ∷ filter (λ y. p y && q y) xs) (filter (λ y. p y && q y) xs)) (λ _. filter_both p q xs)
    (λ _. filter_both p q xs))

in_filter : {X : Type 0} (p : X → Bool) (x : X) (xs : List X) → IsIn x xs → p x ≡ true → IsIn x (filter p xs)
in_filter p x [] h t = absurd h
in_filter p x (y ∷ ys) h t = by_cases (p y) (λ b. p y ≡ b → IsIn x (cond b (y ∷ filter p ys) (filter p ys)))
    (λ _ _. ⊎_elim (λ e. inl e) (λ m. inr (in_filter p x ys m t)) h)
    (λ _ n. ⊎_elim (λ e. absurd (false≢true (sym n ∙ sym (ap p e) ∙ t))) (λ m. in_filter p x ys m t) h) refl

of_filter : {X : Type 0} (p : X → Bool) (x : X) (xs : List X) → IsIn x (filter p xs) → IsIn x xs × (p x ≡ true)
of_filter p x [] h = absurd h
of_filter p x (y ∷ ys) h = by_cases (p y)
    (λ b. p y ≡ b → IsIn x (cond b (y ∷ filter p ys) (filter p ys)) → IsIn x (y ∷ ys) × (p x ≡ true))
    (λ _ t k. ⊎_elim (λ e. (inl e, ap p e ∙ t)) (λ m. let r = of_filter p x ys m in (inr r.0, r.1)) k)
    (λ _ _ k. let r = of_filter p x ys k in (inr r.0, r.1)) refl h

in_permutation : {X : Type 0} (xs ys : List X) (x : X) → IsPermutation xs ys → IsIn x xs → IsIn x ys
in_permutation xs ys x moved h = let c = Contains-permutation xs ys x moved (contains_of_in xs x h) in
    in_of_contains ys x c.0 c.1 c.2

-- The order.

abbrev rank : Element → ℕ × ℕ
rank e = (e.priority, e.id)

abbrev rank_cmp : ℕ × ℕ → ℕ × ℕ → Ordering
rank_cmp a b = ordering_then (nat_cmp b.0 a.0) (nat_cmp a.1 b.1)

rank_total : IsTotalOrder rank_cmp
rank_total = then_total (on_total (λ (k : ℕ × ℕ). k.0) (back_total nat_cmp_total))
    (on_total (λ (k : ℕ × ℕ). k.1) nat_cmp_total)

-- an element that does not come after another comes first
not_behind : (a b c d : ℕ) → is_lt (ordering_then (nat_cmp a b) (nat_cmp c d)) ≡ false
    → (nat_lt b a || ((b == a) && nat_le d c)) ≡ true
not_behind a b c d h =
    by_cases (nat_lt b a) (λ t. (t || ((b == a) && nat_le d c)) ≡ true) (λ _. refl)
    (λ n. by_cases (nat_lt a b) (λ t. is_lt (ordering_then (cond t Less (cond (a == b) Equal Greater)) (nat_cmp c d))
    ≡ false → ((b == a) && nat_le d c) ≡ true)
    (λ _ k. absurd (false≢true (sym k)))
    (λ m k. let same : a ≡ b = level a b n m in
    let first : (b == a) ≡ true = eq-eqb b a (sym same) in
    let second : nat_le d c ≡ true =
    below (subst (λ t. is_lt (ordering_then (cond t Equal Greater) (nat_cmp c d)) ≡ false)
    (eq-eqb a b same) k) in
    ap (λ t. t && nat_le d c) first ∙ second) h)
  where
    level : (a b : ℕ) → nat_lt b a ≡ false → nat_lt a b ≡ false → a ≡ b
    level a b n m = omega (arith, ltb-false b a n, ltb-false a b m)

    below : is_lt (nat_cmp c d) ≡ false → nat_le d c ≡ true
    below k = by_cases (nat_lt c d)
        (λ t. is_lt (cond t Less (cond (c == d) Equal Greater)) ≡ false → nat_lt c d ≡ t → nat_le d c ≡ true)
        (λ _ l _. absurd (false≢true (sym l)))
        (λ _ _ m. le-leb d c (omega (arith, ltb-false c d m))) k refl

sorted_is_first : (es : List (Bor Element)) → IsSortedBy (λ x y. is_ahead x.now y.now) es
    → Ordered (λ e f. comes_first e f ≡ true) (map (λ e. e.now) es)
sorted_is_first es up =
    ordered_map (λ e f. comes_first e f ≡ true) (λ (e : Bor Element). e.now) es
    (ordered_weaker (λ x y. is_ahead y.now x.now ≡ false) (λ x y. comes_first x.now y.now ≡ true)
    (λ x y h. not_behind x.now.priority y.now.priority y.now.id x.now.id h) es sorted)
  where
    sorted : Ordered (λ x y. is_ahead y.now x.now ≡ false) es
    sorted = pairwise (λ x y. is_ahead x.now y.now) (ranks_by rank_total (λ (x : Bor Element). rank x.now)) es up

-- what a sort leaves of references to the queue's free elements
pub sorted_is_listing : (queue : ℕ) (elements : List Element) (xs ys : List (Bor Element))
    → Ordered (λ e f. e.id < f.id) elements → map (λ e. e.now) xs ≡ filter (is_free_at queue) elements
    → IsPermutation xs ys → IsSortedBy (λ x y. is_ahead x.now y.now) ys → IsListing queue elements (map (λ e. e.now) ys)
sorted_is_listing queue elements xs ys rising found moved up = record {
  in_order = ordered_both (λ e f. comes_first e f ≡ true) (λ e f. e.id ≢ f.id) Precedes (λ e f h k. (h, k)) values
      (sorted_is_first ys up) (apart values each_once);
  members = λ e. (
    λ h. of_filter (is_free_at queue) e elements
        (in_permutation values kept e (IsPermutation-sym kept values shuffled) h),
    λ h. in_permutation kept values e shuffled (in_filter (is_free_at queue) e elements h.0 h.1),
  );
}
  where
    values : List Element
    values = map (λ (e : Bor Element). e.now) ys

    kept : List Element
    kept = filter (is_free_at queue) elements

    shuffled : IsPermutation kept values
    shuffled = subst (λ (zs : List Element). IsPermutation zs values) found
        (IsPermutation-map (λ (e : Bor Element). e.now) xs ys moved)

    each_once : (id : ℕ) → times id values ≤ 1
    each_once id = subst (λ n. n ≤ 1)
        (sym (times_sum id values ∙ sum_by-IsPermutation (λ e. if e.id == id then 1 else 0) kept values shuffled
        ∙ sym (times_sum id kept)))
        (once id kept (ordered_filter (λ e f. e.id < f.id) (is_free_at queue) elements rising))

-- and as the vector has them again
pub lent_is_listing : (queue : ℕ) (elements : List Element) (xs ys : List (Bor Element)) (len : ℕ)
    → Ordered (λ e f. e.id < f.id) elements → map (λ e. e.now) xs ≡ filter (is_free_at queue) elements
    → IsPermutation xs ys → IsSortedBy (λ x y. is_ahead x.now y.now) ys → len ≡ length xs
    → IsListing queue elements (map (λ e. e.now) (take len (ys ++ drop (length ys) xs)))
lent_is_listing queue elements xs ys len rising found moved up len_is =
    let same = length_permutation xs ys moved in
    let whole : take len (ys ++ drop (length ys) xs) ≡ ys =
    take_at ys (drop (length ys) xs) len (omega (arith, same, len_is)) in
    rw whole (sorted_is_listing queue elements xs ys rising found moved up)
