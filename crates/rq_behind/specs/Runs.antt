-- Frames that are right in themselves, wherever they stand, and runs of them.
use Rattle.std.specs.Prelude.{◌≡◌, ◌⊎◌, ℕ, ◌+◌, List, length, drop}
use Rattle.rq_model.specs.Records.{Record, Version}
use Rattle.rq_model.specs.Spelling.{Spells}
use Rattle.rq_model.specs.Frames.{HasFrame, HasRightFrame, before, body_in, stated}

-- a frame stands at an offset and is right in itself: its digest is that of the 32 bytes before it,
-- its length and its body
abbrev pub IsRightAt : List ℕ → ℕ → Type 0
IsRightAt b at = HasRightFrame (before at b) (drop at b)

-- where the frame at an offset ends, by its length
abbrev pub frame_end : List ℕ → ℕ → ℕ
frame_end b at = at + (36 + stated (drop at b))

-- the body spells some record
abbrev pub SpellsSome : Version → List ℕ → Type 0
SpellsSome version body = (r : Record) × Spells version r body

-- a frame stands at an offset, whatever its digest, and its body spells a record
pub record LooksRight (version : Version) (b : List ℕ) (at : ℕ) : Type 0 where
  pub frame : HasFrame (drop at b)
  pub record_there : SpellsSome version (body_in (drop at b))

-- the frame at an offset ends where the bytes end, or where this begins
abbrev pub EndsOr : (ℕ → Type 0) → List ℕ → ℕ → Type 0
EndsOr Begins b at = (frame_end b at ≡ length b) ⊎ Begins (frame_end b at)

-- at an offset begin three such frames in a row, or fewer of which the last ends where the bytes end
abbrev pub LooksLikeRun : Version → List ℕ → ℕ → Type 0
LooksLikeRun version b at = LooksRight version b at
    × EndsOr (λ second. LooksRight version b second × EndsOr (LooksRight version b) b second) b at

-- at an offset stand three right frames in a row, or fewer of which the last ends where the bytes end
abbrev pub RightRun : List ℕ → ℕ → Type 0
RightRun b at = IsRightAt b at
    × EndsOr (λ second. IsRightAt b second × EndsOr (IsRightAt b) b second) b at

-- at an offset begins a run: such right frames, and each of them has the body of a record
abbrev pub BeginsRun : Version → List ℕ → ℕ → Type 0
BeginsRun version b at = LooksLikeRun version b at × RightRun b at
