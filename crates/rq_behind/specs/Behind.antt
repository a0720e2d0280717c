-- What stands behind the front of a log.
use Rattle.std.specs.Prelude.{◌≡◌, ◌⊎◌, ℕ, ◌+◌, ◌-◌, ◌<◌, ◌≤◌, List, [], ◌∷◌, length, drop, Option}
use Rattle.std.specs.Prelude.{Some, None, unwrap_or}
use Rattle.std.specs.List.{sum_by}
use Rattle.rq_model.specs.Records.{Version}
use Rattle.rq_model.specs.Frames.{HasFrame, stated}
use Rattle.rq_front.specs.declared.spans.Span.{Span}
use Rattle.rq_behind.specs.Runs.{IsRightAt, BeginsRun, frame_end}
use Rattle.rq_behind.specs.declared.places.SearchEnd.{SearchEnd}
use Rattle.rq_behind.specs.declared.places.SearchEnd.TheVariants.{At, Nowhere}

-- the lengths of a wrong frame, and of a wrong one behind it, lead to a right frame: a damaged body
-- spoils its own frame, a damaged digest its own and the next
abbrev pub LeadsFrom : List ℕ → ℕ → ℕ → Type 0
LeadsFrom b second p = (IsRightAt b second × (p ≡ second))
    ⊎ ((IsRightAt b second → ⊥) × HasFrame (drop second b) × IsRightAt b (frame_end b second)
    × (p ≡ frame_end b second))

abbrev pub LeadsTo : List ℕ → ℕ → ℕ → Type 0
LeadsTo b at p = HasFrame (drop at b) × LeadsFrom b (frame_end b at) p

-- from an offset on no run begins before p
abbrev pub HasNoRunBefore : Version → List ℕ → ℕ → ℕ → Type 0
HasNoRunBefore version b from p = (q : ℕ) → from ≤ q → q < p → BeginsRun version b q → ⊥

-- the first place of a run from an offset on
pub record IsFirstRun (version : Version) (b : List ℕ) (from p : ℕ) : Type 0 where
  pub behind : from ≤ p
  pub run : BeginsRun version b p
  pub first : HasNoRunBefore version b from p

-- neither is the frame at an offset right, nor do lengths lead from it to a right one
pub record IsLost (b : List ℕ) (at : ℕ) : Type 0 where
  pub wrong : IsRightAt b at → ⊥
  pub nowhere : (p : ℕ) → LeadsTo b at p → ⊥

-- p is the next right frame from an offset on: the one that stands there; else that to which the
-- lengths lead; else that with which the next run begins
pub data IsNext (version : Version) (b : List ℕ) (at p : ℕ) : Type 0 where
  Here : IsRightAt b at → p ≡ at → IsNext version b at p
  Led : (IsRightAt b at → ⊥) → LeadsTo b at p → IsNext version b at p
  Sought : IsLost b at → IsFirstRun version b (at + 1) p → IsNext version b at p

-- from an offset on there is none
pub record HasNone (version : Version) (b : List ℕ) (at : ℕ) : Type 0 where
  pub lost : IsLost b at
  pub none : HasNoRunBefore version b (at + 1) (length b)

-- the frames behind an offset, each the next right one behind the one before, to the last; or to
-- where the search gave up, at a place behind them
abbrev pub AreRightFrames : Version → List ℕ → ℕ → List Span → Option ℕ → Type 0
AreRightFrames version b at [] None = HasNone version b at
AreRightFrames version b at [] (Some place) = (at ≤ place) × (place ≤ length b)
AreRightFrames version b at (s ∷ ss) stop = (4 ≤ s.start) × IsNext version b at (s.start - 4)
    × (s.len ≡ stated (drop (s.start - 4) b)) × AreRightFrames version b (s.start + s.len + 32) ss stop

-- frames one behind the other, in order and apart, from an offset on and within an end
abbrev pub StandApart : ℕ → ℕ → List Span → Type 0
StandApart from end [] = from ≤ end
StandApart from end (s ∷ ss) = (from + 4 ≤ s.start) × StandApart (s.start + s.len + 32) end ss

-- the bytes of these frames
abbrev pub frame_bytes : List Span → ℕ
frame_bytes ss = sum_by (λ s. 36 + s.len) ss

-- up to where the bytes were looked at
abbrev pub looked_to : List ℕ → Option ℕ → ℕ
looked_to b stop = unwrap_or stop (length b)

-- Where a search ends.

-- what stands at a place: a run begins there, or the search gave up there
abbrev pub IsPlaceAt : Version → List ℕ → ℕ → SearchEnd → Type 0
IsPlaceAt version b at (At p) = (p ≡ at) × BeginsRun version b at
IsPlaceAt version b at (Nowhere stop) = stop ≡ Some at

-- the first run from an offset on, that there is none, or where the search for it gave up
abbrev pub IsRunPlace : Version → List ℕ → ℕ → SearchEnd → Type 0
IsRunPlace version b from (At p) = IsFirstRun version b from p
IsRunPlace version b from (Nowhere None) = HasNoRunBefore version b from (length b)
IsRunPlace version b from (Nowhere (Some p)) = (from ≤ p) × (p ≤ length b)

-- the next right frame from an offset on, that there is none, or where the search for it gave up
abbrev pub IsNextPlace : Version → List ℕ → ℕ → SearchEnd → Type 0
IsNextPlace version b at (At p) = IsNext version b at p
IsNextPlace version b at (Nowhere stop) = AreRightFrames version b at [] stop
