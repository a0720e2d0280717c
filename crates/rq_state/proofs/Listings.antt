-- Lists by queue.
use Rattle.std.proofs.Common.{◌≡◌, ℕ, zero, suc, ◌<◌, ◌++◌, List, [], ◌∷◌, length, refl, ap, ◌∙◌, arith, slice_set}
use Rattle.std.proofs.Common.{subst}
use Rattle.std.specs.Prelude.{◌==◌, if◌then◌else◌, slice_index_or}
use Rattle.std.specs.Global.{Vec}
use Rattle.std.proofs.lemmas.Bool.{eqb-true}
use Rattle.std.proofs.lemmas.List.{map-set, get_or-set_same, get_or-set_other, length-map}
use Rattle.rq_model.proofs.Lists.{by_cases}
use Rattle.rq_state.specs.Orders.{listed}

pub listed_same : {X : Type 0} (xs : List (Vec X)) (k : ℕ) (v : Vec X) → k < length xs
    → listed (slice_set xs k v) k ≡ v.items
listed_same {X} xs k v h = ap (λ l. slice_index_or l k []) (map-set _ xs k v)
    ∙ get_or-set_same _ k _ [] (omega (arith, length-map xs (λ w. w.items)))

pub listed_other : {X : Type 0} (xs : List (Vec X)) (k : ℕ) (v : Vec X) (q : ℕ) → (q ≡ k → ⊥)
    → listed (slice_set xs k v) q ≡ listed xs q
listed_other {X} xs k v q h = ap (λ l. slice_index_or l q []) (map-set _ xs k v) ∙ get_or-set_other _ k q _ [] h

pub listed_at : {X : Type 0} (xs : List (Vec X)) (k : ℕ) (d : Vec X) → k < length xs
    → (slice_index_or xs k d).items ≡ listed xs k
listed_at [] k d h = grind arith
listed_at (x ∷ xs) zero d h = refl
listed_at (x ∷ xs) (suc k) d h = listed_at xs k d (omega arith)

pub listed_push : {X : Type 0} (xs : List (Vec X)) (k : ℕ) (v : Vec X) (x : X) (d : Vec X) (q : ℕ) → k < length xs
    → v.items ≡ (slice_index_or xs k d).items ++ x ∷ []
    → listed (slice_set xs k v) q ≡ (if k == q then listed xs q ++ x ∷ [] else listed xs q)
listed_push xs k v x d q h e =
    by_cases _ (λ b. listed (slice_set xs k v) q ≡ (if b then listed xs q ++ x ∷ [] else listed xs q))
    (λ b. let is = eqb-true k q b in
    subst (λ p. listed (slice_set xs k v) p ≡ listed xs p ++ x ∷ []) is
    (grind (arith, listed_same xs k v h, e, listed_at xs k d h)))
    (λ b. listed_other xs k v q (λ i. grind arith))
