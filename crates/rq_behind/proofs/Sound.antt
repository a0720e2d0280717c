-- The search: what is found place by place, and that it is right, in order and apart.
use Rattle.std.proofs.Common.{◌≡◌, ℕ, ◌+◌, ◌-◌, ◌<◌, ◌≤◌, List, [], ◌∷◌, ◌++◌, length, drop, Option, Some, None}
use Rattle.std.proofs.Common.{sym, subst, arith, below_more, inl, inr}
use Rattle.std.specs.Prelude.{All, MatchOption}
use Rattle.std.proofs.lemmas.List.{length-drop, append-nil, append_assoc}
use Rattle.std.proofs.lemmas.List.Elements.{All-nil, All-cons}
use Rattle.rq_model.specs.Records.{Version}
use Rattle.rq_model.specs.Frames.{HasFrame, stated}
use Rattle.rq_front.specs.Walks.{IsRight}
use Rattle.rq_front.specs.declared.spans.Span.{Span}
use Rattle.rq_behind.specs.Runs.{IsRightAt, BeginsRun, frame_end}
use Rattle.rq_behind.specs.Behind.{AreRightFrames, HasNoRunBefore, Here, IsFirstRun, IsNext, IsPlaceAt, IsRunPlace, Led}
use Rattle.rq_behind.specs.Behind.{LeadsFrom, LeadsTo, Sought, StandApart}
use Rattle.rq_behind.specs.declared.places.SearchEnd.{SearchEnd}
use Rattle.rq_behind.specs.declared.places.SearchEnd.TheVariants.{At, Nowhere}

-- no run begins at one place more
pub none_more : (version : Version) (b : List ℕ) (from at : ℕ) → HasNoRunBefore version b from at
    → (BeginsRun version b at → ⊥) → HasNoRunBefore version b from (at + 1)
none_more version b from at none here = λ q low lt.
    below_more (λ k. from ≤ k → BeginsRun version b k → ⊥) at (λ k less above. none k above less) (λ above. here) q lt low

-- what is found at a place is what is found from the offset on
pub run_place : (version : Version) (b : List ℕ) (from at : ℕ) (place : SearchEnd) → from ≤ at → at < length b
    → HasNoRunBefore version b from at → IsPlaceAt version b at place → IsRunPlace version b from place
run_place version b from at (At p) low high none found =
    subst (IsFirstRun version b from) (sym found.0) (record { behind = low; run = found.1; first = none })
run_place version b from at (Nowhere None) low high none found = absurd cc
run_place version b from at (Nowhere (Some p)) low high none found =
    let here : p ≡ at = cc in (omega (arith, here), omega (arith, here))

-- a wrong frame leads to where the next one leads
pub leads_on : (b : List ℕ) (at second : ℕ) (place : Option ℕ) → HasFrame (drop at b) → second ≡ frame_end b at
    → MatchOption place ((p : ℕ) → LeadsFrom b second p → ⊥) (LeadsFrom b second)
    → MatchOption place ((p : ℕ) → LeadsTo b at p → ⊥) (LeadsTo b at)
leads_on b at second None frame e none = λ p led. none p (subst (λ (s : ℕ). LeadsFrom b s p) (sym e) led.1)
leads_on b at second (Some p) frame e led = (frame, subst (λ (s : ℕ). LeadsFrom b s p) e led)

-- what lengths lead to stands behind
led_right : (b : List ℕ) (second p : ℕ) → LeadsFrom b second p → IsRightAt b p × (second ≤ p)
led_right b second p (inl h) = (subst (IsRightAt b) (sym h.1) h.0, omega arith)
led_right b second p (inr h) = (subst (IsRightAt b) (sym h.3) h.2, omega arith)

-- the next frame is right, and stands at the offset or behind it
pub next_right : (version : Version) (b : List ℕ) (at p : ℕ) → IsNext version b at p → IsRightAt b p × (at ≤ p)
next_right version b at p (Here right e) = (subst (IsRightAt b) (sym e) right, omega arith)
next_right version b at p (Led wrong led) =
    let h = led_right b (frame_end b at) p led.1 in (h.0, omega arith)
next_right version b at p (Sought lost found) = (found.run.1.0, omega (arith, found.behind))

-- a frame at an offset ends within the bytes
pub frame_ends : (b : List ℕ) (at : ℕ) → HasFrame (drop at b) → frame_end b at ≤ length b
frame_ends b at frame = omega (arith, frame.room, length-drop at b)

pub found_right : (version : Version) (b : List ℕ) (at : ℕ) (ss : List Span) (stop : Option ℕ)
    → AreRightFrames version b at ss stop → All (IsRight b) ss
found_right version b at [] stop found = All-nil (IsRight b)
found_right version b at (s ∷ ss) stop found =
    All-cons (IsRight b) s ss (next_right version b at (s.start - 4) found.1).0
    (found_right version b (s.start + s.len + 32) ss stop found.3)

pub found_apart : (version : Version) (b : List ℕ) (at : ℕ) (ss : List Span) (stop : Option ℕ) → at ≤ length b
    → AreRightFrames version b at ss stop → StandApart at (length b) ss
found_apart version b at [] stop within found = within
found_apart version b at (s ∷ ss) stop within found =
    let next = next_right version b at (s.start - 4) found.1 in
    let ends = frame_ends b (s.start - 4) next.0.whole in (
      omega (arith, next.1, found.0),
      found_apart version b (s.start + s.len + 32) ss stop (omega (arith, ends, found.0, found.2)) found.3,
    )

-- one frame more is found
pub found_more : (version : Version) (b : List ℕ) (from at : ℕ) (ss : List Span) (s : Span)
    → ((rest : List Span) (stop : Option ℕ) → AreRightFrames version b at rest stop → AreRightFrames version b from (ss ++ rest) stop)
    → 4 ≤ s.start → IsNext version b at (s.start - 4) → s.len ≡ stated (drop (s.start - 4) b)
    → (rest : List Span) (stop : Option ℕ) → AreRightFrames version b (s.start + s.len + 32) rest stop
    → AreRightFrames version b from ((ss ++ s ∷ []) ++ rest) stop
found_more version b from at ss s before low next len = λ rest stop more.
    subst (λ (xs : List Span). AreRightFrames version b from xs stop) (sym (append_assoc ss (s ∷ []) rest))
    (before (s ∷ rest) stop (low, next, len, more))

-- none is found any more
pub found_all : (version : Version) (b : List ℕ) (from at : ℕ) (ss : List Span) (stop : Option ℕ)
    → ((rest : List Span) (end : Option ℕ) → AreRightFrames version b at rest end → AreRightFrames version b from (ss ++ rest) end)
    → AreRightFrames version b at [] stop → AreRightFrames version b from ss stop
found_all version b from at ss stop before last =
    subst (λ (xs : List Span). AreRightFrames version b from xs stop) (append-nil ss) (before [] stop last)
