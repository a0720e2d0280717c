-- Whether a right record stands anywhere in bytes.
use Rattle.std.specs.Prelude.{◌≡◌, ℕ, ◌+◌, ◌<◌, ◌≤◌, List, length}
use Rattle.rq_model.specs.Records.{Version}
use Rattle.rq_behind.specs.Runs.{IsRightAt, LooksRight, frame_end}
use Rattle.rq_behind.specs.declared.scan.Scan.{Scan}
use Rattle.rq_behind.specs.declared.scan.Scan.TheVariants.{Clear, At, GaveUp}

-- at an offset stands a right record: a frame that is right in itself, of at most 1,048,576 bytes,
-- whose body spells a record
pub record HasRecordAt (version : Version) (b : List ℕ) (at : ℕ) : Type 0 where
  pub looks : LooksRight version b at
  pub right : IsRightAt b at
  pub small : frame_end b at ≤ at + 1048576

-- from an offset on none stands before p
abbrev pub HasNoRecordBefore : Version → List ℕ → ℕ → ℕ → Type 0
HasNoRecordBefore version b from p = (q : ℕ) → from ≤ q → q < p → HasRecordAt version b q → ⊥

-- what is seen at an offset
abbrev pub IsSeenAt : Version → List ℕ → ℕ → Scan → Type 0
IsSeenAt version b at Clear = ⊥
IsSeenAt version b at (At p) = (p ≡ at) × HasRecordAt version b at
IsSeenAt version b at (GaveUp p) = p ≡ at

-- what a look at each place from an offset on finds: no right record, the first one, or where it
-- gave up
abbrev pub Scans : Version → List ℕ → ℕ → Scan → Type 0
Scans version b from Clear = HasNoRecordBefore version b from (length b)
Scans version b from (At p) = (from ≤ p) × HasRecordAt version b p
    × HasNoRecordBefore version b from p
Scans version b from (GaveUp p) = (from ≤ p) × (p ≤ length b)
