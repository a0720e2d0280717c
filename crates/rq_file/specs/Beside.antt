-- The names beside a file, under which it is written.
use Rattle.std.specs.Prelude.{◌≡◌, ◌<◌, ℕ, List, ◌++◌, codes}
use Rattle.std.specs.Fmt.{decimal}

-- behind the path stands the number of the try
abbrev pub name_beside : List ℕ → ℕ → List ℕ
name_beside path number = path ++ (codes ".rq" ++ decimal number)

-- one of the hundred names beside the path
abbrev pub IsBeside : List ℕ → List ℕ → Type 0
IsBeside path name = (number : ℕ) × (number < 100) × (name ≡ name_beside path number)
