-- Lists, taken together; rows turned into columns.
use Rattle.std.specs.Prelude.{◌≡◌, List, [], ◌∷◌, ◌++◌, length, ⊤, ◌<◌, ℕ, map, slice_index_or}
use Rattle.std.specs.Global.{Vec}

-- each of the one goes with that at its place in the other, and there are as many
abbrev pub EachWith : {A B : Type 0} → (A → B → Type 0) → List A → List B → Type 0
EachWith R [] [] = ⊤
EachWith R [] (y ∷ ys) = ⊥
EachWith R (x ∷ xs) [] = ⊥
EachWith R (x ∷ xs) (y ∷ ys) = R x y × EachWith R xs ys

-- both were taken apart from their ends: xs and us are left, and the others have come to their end
pub record Halfway {A B : Type 0} (End : A → B → Type 0) (wholes : List A)
    (others : List B) (xs : List A) (us : List B) : Type 0 where
  pub rest : List A
  pub more : List B
  pub whole : wholes ≡ xs ++ rest
  pub other : others ≡ us ++ more
  pub same_long : length us ≡ length xs
  pub ended : EachWith End rest more

-- this many columns, each with what all rows have at its index
pub record AreColumns {T : Type 0} (rows : List (Vec T)) (count : ℕ) (columns : List (Vec T))
    : Type 0 where
  pub len : length columns ≡ count
  pub long : (k : ℕ) (d : Vec T) → k < count → length (slice_index_or columns k d).items ≡ length rows
  pub each : (k : ℕ) (d : Vec T) (x : T) → k < count
      → (slice_index_or columns k d).items ≡ map (λ r. slice_index_or r.items k x) rows
