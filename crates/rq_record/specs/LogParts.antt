-- Parts of a log.
use Rattle.std.specs.Prelude.{ℕ, ◌+◌, ◌≤◌, ◌≡◌, List, ◌++◌, length, slice_range}
use Rattle.rq_bytes.specs.Readers.{IsBytes}

-- from this byte on, the log has those bytes
abbrev pub IsPartOf : List ℕ → ℕ → List ℕ → Type 0
IsPartOf log start bytes = (start + length bytes ≤ length log)
    × (slice_range log start (start + length bytes) ≡ bytes)

-- these are the last bytes of the log before an end
pub record EndsAt (log : List ℕ) (end : ℕ) (bytes : List ℕ) : Type 0 where
  pub before : List ℕ
  pub behind : List ℕ
  pub whole : log ≡ before ++ (bytes ++ behind)
  pub there : end ≡ length before + length bytes

-- so does what is left of a body
pub record IsLeftTo (log : List ℕ) (end : ℕ) (left : List ℕ) : Type 0 where
  pub ends : EndsAt log end left
  pub bytes : IsBytes left
