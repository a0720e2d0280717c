-- What is at the indices of those that pass a test.
use Rattle.std.proofs.Common.{◌≡◌, ℕ, suc, ◌+◌, ◌<◌, Bool, cond, List, [], ◌∷◌, length, map, refl, ap, ◌∙◌, arith}
use Rattle.std.specs.Prelude.{slice_index_or, filter}
use Rattle.std.specs.List.{AllByRecursion}
use Rattle.rq_model.proofs.Lists.{by_cases, each_weaker}
use Rattle.rq_state.specs.Orders.{indices_of}

within_from : {X : Type 0} (p : X → Bool) (n : ℕ) (xs : List X)
    → AllByRecursion (λ i. i < n + length xs) (indices_of p n xs)
within_from p n [] = tt
within_from p n (x ∷ xs) =
    let rest = each_weaker _ _ (λ i h. omega arith) _ (within_from p (n + 1) xs) in
    by_cases (p x) (λ b. AllByRecursion (λ i. i < n + length (x ∷ xs))
    (cond b (n ∷ indices_of p (n + 1) xs) (indices_of p (n + 1) xs))) (λ _. grind arith) (λ _. rest)

pub indices_within : {X : Type 0} (p : X → Bool) (xs : List X) → AllByRecursion (λ i. i < length xs) (indices_of p 0 xs)
indices_within p xs = each_weaker _ _ (λ i h. omega arith) _ (within_from p 0 xs)

are_from : {X : Type 0} (p : X → Bool) (f : ℕ → X) (d : X) (n : ℕ) (xs : List X)
    → ((k : ℕ) → k < length xs → f (n + k) ≡ slice_index_or xs k d) → map f (indices_of p n xs) ≡ filter p xs
are_from p f d n [] h = refl
are_from p f d n (x ∷ xs) h =
    let first = ap f (same n) ∙ h 0 (omega arith) in
    let rest = are_from p f d (n + 1) xs (λ k l. ap f (next n k) ∙ h _ (omega arith)) in
    by_cases (p x) (λ b. map f (cond b (n ∷ indices_of p (n + 1) xs) (indices_of p (n + 1) xs))
    ≡ cond b (x ∷ filter p xs) (filter p xs)) (λ _ i. first i ∷ rest i) (λ _. rest)
  where
    same : (n : ℕ) → n ≡ n + 0
    same n = omega arith

    next : (n k : ℕ) → n + 1 + k ≡ n + suc k
    next n k = omega arith

pub indices_are : {X : Type 0} (p : X → Bool) (xs : List X) (d : X)
    → map (λ i. slice_index_or xs i d) (indices_of p 0 xs) ≡ filter p xs
indices_are p xs d = are_from p _ d 0 xs (λ k l. grind arith)
