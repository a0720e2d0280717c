-- What a call that appends leaves.
use Rattle.std.specs.Prelude.{◌≡◌, ℕ, List, ◌++◌, Result, Ok, Err}

-- the text is appended, or memory ran out and nothing changed
abbrev pub AppendsWhole : {A E : Type 0} → List ℕ → List ℕ → List ℕ → Result A E → Type 0
AppendsWhole old new text (Ok x) = new ≡ old ++ text
AppendsWhole old new text (Err e) = new ≡ old
