-- Which number a text is.
use Rattle.std.specs.Prelude.{◌≡◌, ℕ, ◌≤◌, List, Option, Some, None}
use Rattle.std.specs.Fmt.{decimal}

-- the text is this number in decimal, or it is that of no number up to `most`
abbrev pub IsNumber : ℕ → List ℕ → Option ℕ → Type 0
IsNumber most text (Some n) = (n ≤ most) × (text ≡ decimal n)
IsNumber most text None = (n : ℕ) → n ≤ most → text ≡ decimal n → ⊥
