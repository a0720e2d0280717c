-- Names that differ, in any order.
use Rattle.std.proofs.Common.{rules}
use Rattle.std.proofs.Common.{◌≡◌, ℕ, ◌+◌, ◌≤◌, Bool, true, false, List, [], ◌∷◌, refl, sym, ap, ◌∙◌, subst, arith}
use Rattle.std.specs.Prelude.{◌↔◌, IsTrue, if◌then◌else◌}
use Rattle.std.specs.List.{AllByRecursion, IsAllAdjacentAnswer}
use Rattle.std.specs.List.Sorted.{IsPermutation, IsSorted}
use Rattle.std.specs.Ordering.{is_lt, is_eq, nat_cmp, ordering_reverse}
use Rattle.std.specs.declared.cmp.Ordering.TheVariants.{Less, Equal, Greater}
use Rattle.std.specs.declared.cmp.Ordering.{Ordering}
use Rattle.std.specs.Cmp.{IsStrictWeakOrder}
use Rattle.std.specs.Cmp.Lexicographic.{slice_cmp, nat_list_cmp_total}
use Rattle.std.specs.Str.{bytes_eq}
use Rattle.std.proofs.lemmas.List.Sorted.{IsPermutation-sym, sum_by-IsPermutation, ranks_by}
use Rattle.std.proofs.lemmas.Slice.Eq.{bytes_eq-Decides}
use Rattle.std.proofs.lemmas.Map.Text.{is_eq-slice_cmp}
use Rattle.rq_model.specs.States.{name_before}
use Rattle.rq_model.specs.WellFormed.{Ordered}
use Rattle.rq_model.proofs.Lists.{by_cases, each_weaker}
use Rattle.rq_model.proofs.Merged.{ordered_weaker}
use Rattle.rq_state.proofs.InOrder.{pairwise}
use Rattle.rq_state.proofs.Rises.{rises_by}
use Rattle.rq_state.proofs.Sorts.{number_of, none_of, some_of, number_sum, each_self}

abbrev pub Differ : List (List ℕ) → Type 0
Differ ns = Ordered (λ a b. bytes_eq a b ≡ false) ns

-- Each name at most once.

bytes_same : (a : List ℕ) → bytes_eq a a ≡ true
bytes_same a = (bytes_eq-Decides a a).1 refl

not_same : (x y n : List ℕ) → bytes_eq x n ≡ true → bytes_eq x y ≡ false → bytes_eq y n ≡ false
not_same x y n e d = search rules

differ_few : (ns : List (List ℕ)) → Differ ns → (n : List ℕ) → number_of (λ a. bytes_eq a n) ns ≤ 1
differ_few [] h n = omega arith
differ_few (x ∷ xs) h n = by_cases _
    (λ b. bytes_eq x n ≡ b → (if b then 1 else 0) + number_of (λ a. bytes_eq a n) xs ≤ 1)
    (λ _ e. let none =
    none_of _ xs
    (each_weaker _ _ (λ y. not_same x y n e) xs h.0) in
    omega arith)
    (λ _ _. omega (arith, differ_few xs h.1 n)) refl

few_differ : (ns : List (List ℕ)) → ((n : List ℕ) → number_of (λ a. bytes_eq a n) ns ≤ 1) → Differ ns
few_differ [] h = tt
few_differ (x ∷ xs) h = (
  each_self _ xs xs (λ w m. m)
      (λ w m. by_cases (bytes_eq x w) (λ b. (if b then 1 else 0) + number_of (λ a. bytes_eq a w) xs ≤ 1 → b ≡ false)
      (λ _ k. let some = some_of (λ a. bytes_eq a w) xs w m (bytes_same w) in
      let no : ⊥ = omega (arith, k, some) in absurd no) (λ _ _. refl) (h w)),
  few_differ xs (λ n. grind arith),
)

differ_moved : (xs ys : List (List ℕ)) → IsPermutation xs ys → Differ xs → Differ ys
differ_moved xs ys moved h = few_differ ys
    (λ n. subst (λ m. m ≤ 1) (sym (number_sum _ ys ∙ sum_by-IsPermutation _ xs ys moved ∙ sym (number_sum _ xs)))
    (differ_few xs h n))

-- Sorted names differ if each is before the next.

before_differs : (a b : List ℕ) → name_before a b ≡ true → bytes_eq a b ≡ false
before_differs a b h = sym (is_eq-slice_cmp a b) ∙ not_both _ h
  where
    not_both : (o : Ordering) → is_lt o ≡ true → is_eq o ≡ false
    not_both Less h = refl
    not_both Equal h = sym h
    not_both Greater h = refl

differs_before : (a b : List ℕ) → bytes_eq a b ≡ false → name_before b a ≡ false → name_before a b ≡ true
differs_before a b d h = ap is_lt turned ∙ one_left _ h (ap is_eq (sym turned) ∙ is_eq-slice_cmp a b ∙ d)
  where
    turned : slice_cmp nat_cmp a b ≡ ordering_reverse (slice_cmp nat_cmp b a)
    turned = nat_list_cmp_total.antisymm a b

    one_left : (o : Ordering) → is_lt o ≡ false → is_eq (ordering_reverse o) ≡ false → is_lt (ordering_reverse o) ≡ true
    one_left Less h k = sym h
    one_left Equal h k = sym k
    one_left Greater h k = refl

ordered_both : {X : Type 0} (R S T : X → X → Type 0) → ((a b : X) → R a b → S a b → T a b) → (xs : List X)
    → Ordered R xs → Ordered S xs → Ordered T xs
ordered_both R S T f [] h k = tt
ordered_both R S T f (x ∷ xs) h k = (each_two (R x) (S x) (T x) (f x) xs h.0 k.0, ordered_both R S T f xs h.1 k.1)
  where
    each_two : {X : Type 0} (P Q U : X → Type 0) → ((x : X) → P x → Q x → U x) → (xs : List X) → AllByRecursion P xs
        → AllByRecursion Q xs → AllByRecursion U xs
    each_two P Q U f [] h k = tt
    each_two P Q U f (x ∷ xs) h k = (f x h.0 k.0, each_two P Q U f xs h.1 k.1)

name_is_order : IsStrictWeakOrder name_before
name_is_order = ranks_by nat_list_cmp_total (λ n. n)

-- what a sort leaves rises strictly exactly if the names differ
pub names_told : (xs ys : List (List ℕ)) (r : Bool) → IsPermutation xs ys → IsSorted (slice_cmp nat_cmp) ys
    → IsAllAdjacentAnswer (λ a b t. t ≡ name_before a b) ys r → IsTrue r ↔ Differ xs
names_told xs ys r moved sorted answer =
    let told = rises_by _ name_is_order ys r answer in (
      λ e. differ_moved ys xs (IsPermutation-sym xs ys moved)
          (ordered_weaker _ _ before_differs ys (told.0 e)),
      λ d. told.1 (ordered_both _ _ _ differs_before ys (differ_moved xs ys moved d)
          (pairwise _ name_is_order ys sorted)),
    )
