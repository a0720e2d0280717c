-- One member more is spelled.
use Rattle.std.proofs.Common.{◌≡◌, ℕ, ◌+◌, ◌<◌, List, [], ◌∷◌, ◌++◌, length, take, ap, ◌∙◌, append_assoc}
use Rattle.std.proofs.Common.{arith, slice_index_or}
use Rattle.std.specs.List.{flat_map}
use Rattle.std.proofs.lemmas.List.{flat_map_more}
use Rattle.std.proofs.Math.Seq.{take-suc}

take_more : {X : Type 0} (xs : List X) (i : ℕ) (x : X) → i < length xs → x ≡ slice_index_or xs i x
    → take (i + 1) xs ≡ take i xs ++ x ∷ []
take_more {X} xs i x lt is = grind (arith, take-suc xs i x lt)

pub grown : {X : Type 0} (spelling : X → List ℕ) (old count before after : List ℕ) (xs : List X) (i : ℕ) (x : X)
    → before ≡ old ++ (count ++ flat_map spelling (take i xs)) → after ≡ before ++ spelling x
    → i < length xs → x ≡ slice_index_or xs i x → after ≡ old ++ (count ++ flat_map spelling (take (i + 1) xs))
grown {X} spelling old count before after xs i x was put lt is =
    put ∙ ap (λ t. t ++ spelling x) was ∙ append_assoc old _ _
    ∙ ap (λ t. old ++ t) (grind (arith, flat_map_more spelling count (take i xs) x, take_more xs i x lt is))
