-- What a test of each member and the next says.
use Rattle.std.proofs.Common.{◌≡◌, ℕ, ◌<◌, Bool, true, false, List, length, ◌∙◌, map, [], ◌∷◌, ◌≤◌, arith}
use Rattle.std.specs.Prelude.{◌↔◌, IsTrue, nat_lt}
use Rattle.std.specs.List.{IsAllAdjacentAnswer}
use Rattle.std.specs.Cmp.{IsStrictWeakOrder}
use Rattle.std.proofs.lemmas.Bool.{false≢true}
use Rattle.rq_record.specs.declared.record.UnitNo.{UnitNo}
use Rattle.rq_model.specs.WellFormed.{Ordered}
use Rattle.rq_state.specs.Views.{unit_of}
use Rattle.rq_model.proofs.Merged.{ordered_weaker}
use Rattle.rq_state.proofs.InOrder.{number_is_order, ordered_map}
use Rattle.rq_state.proofs.Neighbours.{at_next, from_next, ordered_unmap}

some_member : {X : Type 0} (xs : List X) → 1 ≤ length xs → X
some_member [] h = grind arith
some_member (x ∷ xs) h = x

-- by an order's test
pub rises_by : {X : Type 0} (before : X → X → Bool) → IsStrictWeakOrder before → (xs : List X) (r : Bool)
    → IsAllAdjacentAnswer (λ x y b. b ≡ before x y) xs r → IsTrue r ↔ Ordered (λ x y. before x y ≡ true) xs
rises_by {X} before order xs true answer = (
  λ _. from_next _ (grind arith) xs (λ k d l. grind arith),
  λ _. refl_true,
)
  where
    refl_true : true ≡ true
    refl_true = λ i. true
rises_by {X} before order xs false answer = (grind arith, λ up. absurd (false≢true (never up)))
  where
    never : Ordered (λ x y. before x y ≡ true) xs → false ≡ true
    never up = let d = some_member xs (omega arith) in
        answer.2 d ∙ at_next _ xs up _ d answer.1

-- by the test of a number
pub rises_by_number : {X : Type 0} (n : X → ℕ) (xs : List X) (r : Bool)
    → IsAllAdjacentAnswer (λ x y b. b ≡ nat_lt (n x) (n y)) xs r → IsTrue r ↔ Ordered (λ x y. n x < n y) xs
rises_by_number n xs r answer =
    let told = rises_by _ (number_is_order n) xs r answer in (
      λ e. ordered_weaker _ _ (λ x y h. grind arith) xs (told.0 e),
      λ up. told.1 (ordered_weaker _ _ (λ x y h. grind arith) xs up),
    )

pub units_rise_by : (units : List UnitNo) (r : Bool)
    → IsAllAdjacentAnswer (λ x y b. b ≡ nat_lt (unit_of x) (unit_of y)) units r
    → IsTrue r ↔ Ordered (λ u v. u < v) (map unit_of units)
units_rise_by units r answer =
    let told = rises_by_number unit_of units r answer in (
      λ e. ordered_map _ _ units (told.0 e),
      λ up. told.1 (ordered_unmap _ _ units up),
    )
