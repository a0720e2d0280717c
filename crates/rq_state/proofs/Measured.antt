-- How long the spellings of units are together.
use Rattle.std.proofs.Common.{refl, ◌≡◌, ℕ, ◌*◌, List, [], ◌∷◌, length, ap, ◌∙◌, arith, map}
use Rattle.std.specs.List.{flat_map}
use Rattle.std.specs.Int.{w64, to_be_bytes}
use Rattle.std.proofs.lemmas.List.{length-map}
use Rattle.rq_record.specs.declared.record.UnitNo.{UnitNo}
use Rattle.rq_state.specs.Views.{unit_of}

eight_each : (units : List ℕ) → length (flat_map (to_be_bytes w64) units) ≡ 8 * length units
eight_each [] = refl
eight_each (u ∷ us) = omega (arith, eight_each us)

-- a unit takes eight bytes
pub units_measured : (units : List UnitNo) → length (flat_map (to_be_bytes w64) (map unit_of units)) ≡ 8 * length units
units_measured units = eight_each _ ∙ ap (λ n. 8 * n) (length-map units unit_of)
