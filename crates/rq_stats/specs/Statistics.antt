-- Numbers of a log, as they are shown.
use Rattle.std.specs.Prelude.{◌≡◌, ℕ, Bool, true, false, List, ◌++◌, codes, Option}
use Rattle.std.specs.Io.KnownBytes.{Appends}
use Rattle.rq_model.specs.Fronts.{Restarted}
use Rattle.rq_found.specs.Ends.{IsRestartFrom, beginning_text, end_line}

-- the text is an object of JSON; or the line that says with which checkpoint b begins, if it was
-- carried on, that of where its front ends, with some reason, and some lines
abbrev pub AreNumbers : Option ℕ → List ℕ → Bool → List ℕ → Type 0
AreNumbers at b true text = (object : List ℕ) × (text ≡ object ++ codes "\n")
AreNumbers at b false text = (r : Restarted) × (reason lines : List ℕ) × IsRestartFrom at b r
    × (text ≡ beginning_text at ++ (end_line r reason ++ lines))

-- such a text of b is appended
abbrev pub PutsNumbers : Option ℕ → List ℕ → Bool → Option (List ℕ) → Option (List ℕ) → Type 0
PutsNumbers at b json old new = (text : List ℕ) × AreNumbers at b json text × Appends old new text
