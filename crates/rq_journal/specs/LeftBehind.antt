-- What a crash can leave behind a front, and what it cannot.
use Rattle.std.specs.Prelude.{◌≡◌, ◌⊎◌, ⊤, ℕ, ◌-◌, ◌<◌, ◌≤◌, List, [], length, None}
use Rattle.rq_model.specs.Records.{Version}
use Rattle.rq_model.specs.Frames as frames
use Rattle.rq_model.specs.Fronts.{Why, Ends, Form, Law}
use Rattle.rq_behind.specs.Runs.{IsRightAt}
use Rattle.rq_behind.specs.Behind.{AreRightFrames}
use Rattle.rq_behind.specs.Scans.{HasNoRecordBefore}
use Rattle.rq_journal.specs.declared.left_behind.Damage.{Damage}
use Rattle.rq_journal.specs.declared.left_behind.Damage.TheVariants.{Unlawful, Long, Right, Unsearched}

-- the frames behind so many bytes of b lead to no right frame, and no run of them begins there
abbrev pub HasNoRightFrame : Version → List ℕ → ℕ → Type 0
HasNoRightFrame version b used = AreRightFrames version b used [] None

-- so many bytes can be left behind a front that ends for this reason: nothing or the beginning of a
-- frame, or no more than are written at once
abbrev pub MayBeLeft : Why → ℕ → Type 0
MayBeLeft (Ends frames.Whole) left = ⊤
MayBeLeft (Ends frames.Cut) left = ⊤
MayBeLeft (Ends frames.Length) left = left ≤ 1048576
MayBeLeft (Ends frames.Digest) left = left ≤ 1048576
MayBeLeft Form left = ⊥
MayBeLeft Law left = ⊥

-- a crash can have left what stands behind the first bytes of b, where a front ends for this reason:
-- no right frame is among it, whether frames lead to it or not
pub record IsLeftByCrash (version : Version) (b : List ℕ) (used : ℕ) (why : Why) : Type 0 where
  pub few : MayBeLeft why (length b - used)
  pub none : HasNoRightFrame version b used
  pub nowhere : HasNoRecordBefore version b used (length b)

-- so many bytes cannot: the front ends by a record, or they are too many
abbrev pub IsExcess : Why → ℕ → Damage → Type 0
IsExcess why left Unlawful = (why ≡ Form) ⊎ (why ≡ Law)
IsExcess why left Long = ((why ≡ Ends frames.Length) ⊎ (why ≡ Ends frames.Digest))
    × (1048576 < left)
IsExcess why left (Right p) = ⊥
IsExcess why left (Unsearched p) = ⊥

-- what a search found: a right frame, or the place where it gave up
abbrev pub IsSeenBehind : List ℕ → ℕ → Damage → Type 0
IsSeenBehind b used Unlawful = ⊥
IsSeenBehind b used Long = ⊥
IsSeenBehind b used (Right p) = (used ≤ p) × IsRightAt b p
IsSeenBehind b used (Unsearched p) = (used ≤ p) × (p ≤ length b)

-- so no crash can have left what stands behind the first bytes of b
abbrev pub IsDamage : List ℕ → ℕ → Why → Damage → Type 0
IsDamage b used why damage = IsExcess why (length b - used) damage ⊎ IsSeenBehind b used damage
