-- The names of a log that another file takes the place of.
use Rattle.std.specs.Prelude.{◌≡◌, ℕ, List, ◌++◌, codes, string_bytes}
use Rattle.std.specs.Fmt.{decimal}
use Rattle.rq_file.specs.declared.successions.Succession.{Succession}

-- those of a log of this name, which has so many records
pub record AreNamesOf (path : List ℕ) (records : ℕ) (names : Succession) : Type 0 where
  pub log : string_bytes names.log ≡ path
  pub next : string_bytes names.next ≡ path ++ codes ".next"
  pub kept : string_bytes names.kept ≡ path ++ (codes "." ++ decimal records)
