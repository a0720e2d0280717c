-- Neighbours of a list in order.
use Rattle.std.proofs.Common.{◌≡◌, ℕ, zero, suc, ◌+◌, List, [], ◌∷◌, length, map, subst, arith}
use Rattle.std.specs.Prelude.{slice_index_or}
use Rattle.std.specs.List.{AllByRecursion, AllAdjacentBelow}
use Rattle.rq_model.specs.WellFormed.{Ordered}
use Rattle.rq_model.proofs.Lists.{each_weaker}

after : (k : ℕ) → suc k + 1 ≡ suc (k + 1)
after k = omega arith

-- a member and the next, of a list in order
pub at_next : {X : Type 0} (R : X → X → Type 0) (xs : List X) → Ordered R xs → AllAdjacentBelow R xs (length xs)
at_next R [] h k d l = grind arith
at_next R (x ∷ []) h k d l = grind arith
at_next R (x ∷ y ∷ ys) h zero d l = h.0.0
at_next R (x ∷ y ∷ ys) h (suc k) d l = grind (arith, at_next R (y ∷ ys) h.1 k d (omega arith))

-- and back, if the order is transitive
pub from_next : {X : Type 0} (R : X → X → Type 0) → ((x y z : X) → R x y → R y z → R x z) → (xs : List X)
    → AllAdjacentBelow R xs (length xs) → Ordered R xs
from_next R through [] h = tt
from_next R through (x ∷ []) h = (tt, tt)
from_next R through (x ∷ y ∷ ys) h =
    let others = from_next R through (y ∷ ys)
    (λ k d l. subst (λ m. R (slice_index_or (y ∷ ys) k d) (slice_index_or (x ∷ y ∷ ys) m d)) (after k)
    (grind arith)) in
    let first = h 0 x (omega arith) in
    ((first, each_weaker (R y) (R x) (λ z. grind arith) ys others.0), others)

pub ordered_unmap : {X Y : Type 0} (R : Y → Y → Type 0) (f : X → Y) (xs : List X) → Ordered R (map f xs)
    → Ordered (λ a b. R (f a) (f b)) xs
ordered_unmap R f [] h = tt
ordered_unmap R f (x ∷ xs) h = (each_back _ f xs h.0, ordered_unmap R f xs h.1)
  where
    each_back : {X Y : Type 0} (P : Y → Type 0) (f : X → Y) (xs : List X) → AllByRecursion P (map f xs)
        → AllByRecursion (λ x. P (f x)) xs
    each_back P f [] h = tt
    each_back P f (x ∷ xs) h = (h.0, each_back P f xs h.1)
