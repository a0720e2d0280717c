-- Facts of lists that std does not have.
use Rattle.std.proofs.Common.{◌≡◌, ◌≢◌, ◌<◌, ℕ, zero, suc, List, [], ◌∷◌, ◌++◌, length, get_or, drop, map, reverse}
use Rattle.std.proofs.Common.{replicate, sum, sum_by, set, Some, slice_get, sym, refl, ap, ◌∙◌, get_or-set_other}
use Rattle.std.proofs.lemmas.Grind.{get_or-set_at}
use Rattle.rq_pool.proofs.Words.{map-append, reverse-append, sum-map, map-map, map-set_same, dite, ℕ_discrete}

-- for the tactics: what a list shows after a write that shows the same
pub ruleset same_after = (map-set_same)

pub map-reverse : {A B : Type 0} (f : A → B) (xs : List A) → map f (reverse xs) ≡ reverse (map f xs)
map-reverse f [] = refl
map-reverse f (x ∷ xs) = ap (map f) (reverse-append (x ∷ []) xs) ∙ map-append f (reverse xs) (x ∷ [])
    ∙ ap (λ l. l ++ f x ∷ []) (map-reverse f xs) ∙ sym (reverse-append (f x ∷ []) (map f xs))

pub sum_by-map : {A B : Type 0} (f : B → ℕ) (g : A → B) (xs : List A) → sum_by f (map g xs) ≡ sum_by (λ x. f (g x)) xs
sum_by-map f g xs = sym (sum-map f (map g xs)) ∙ ap sum (map-map f g xs) ∙ sum-map (λ x. f (g x)) xs

-- the sums of lists whose values under f are the same
pub sum_by_same : {A : Type 0} (f : A → ℕ) (xs ys : List A) → map f xs ≡ map f ys → sum_by f xs ≡ sum_by f ys
sum_by_same f xs ys e = sym (sum-map f xs) ∙ ap sum e ∙ sum-map f ys

pub nothing_at : {A : Type 0} (n j : ℕ) → get_or (replicate {A = List A} n []) j [] ≡ []
nothing_at zero j = refl
nothing_at (suc n) zero = refl
nothing_at (suc n) (suc j) = nothing_at n j

-- the first of what is left is what was at that index
pub first_of_drop : {A : Type 0} (xs : List A) (k : ℕ) (y : A) (ys : List A) → drop k xs ≡ y ∷ ys
    → (slice_get xs k ≡ Some y) × (drop (suc k) xs ≡ ys)
first_of_drop [] zero y ys e = absurd (cc)
first_of_drop [] (suc k) y ys e = absurd (cc)
first_of_drop (x ∷ xs) zero y ys e = let head : x ≡ y = cc in let tail : xs ≡ ys = cc in (ap Some head, tail)
first_of_drop (x ∷ xs) (suc k) y ys e = first_of_drop xs k y ys e

-- the element at k, once there is a new one at j
pub set_either : {A : Type 0} (P : A → Type 0) (xs : List A) (j k : ℕ) (new d : A) → j < length xs
    → (k ≡ j → P new) → (k ≢ j → P (get_or xs k d)) → P (get_or (set xs j new) k d)
set_either P xs j k new d inside mine others = dite (ℕ_discrete k j)
    (λ same. rw (get_or-set_at xs j k new d same inside) (mine same))
    (λ other. rw (get_or-set_other xs j k new d other) (others other))
