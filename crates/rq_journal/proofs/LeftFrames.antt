-- The first of the frames that a search found behind a front.
use Rattle.std.proofs.Common.{◌≡◌, ℕ, ◌-◌, List, [], ◌∷◌, length, Option, Some, None, sym, subst, arith, ap, ◌∙◌}
use Rattle.std.specs.Prelude.{All, slice_get}
use Rattle.std.proofs.lemmas.List.Elements.{All-head}
use Rattle.rq_front.specs.Walks.{IsRight}
use Rattle.rq_front.specs.declared.spans.Span.{Span}
use Rattle.rq_behind.specs.Runs.{IsRightAt}
use Rattle.rq_behind.specs.Behind.{AreRightFrames, StandApart}
use Rattle.rq_model.specs.Records.{Version}
use Rattle.rq_journal.specs.LeftBehind.{IsSeenBehind}
use Rattle.rq_journal.specs.declared.left_behind.Damage.TheVariants.{Right}

-- it is right, and stands behind
pub first_right : (b : List ℕ) (used : ℕ) (ss : List Span) (s : Span) (offset : ℕ) → slice_get ss 0 ≡ Some s
    → All (IsRight b) ss → StandApart used (length b) ss → offset ≡ s.start - 4
    → IsSeenBehind b used (Right offset)
first_right b used [] s offset e right apart is = absurd cc
first_right b used (t ∷ ss) s offset e right apart is =
    let same : t ≡ s = cc in (
      omega (arith, apart.0, ap (λ (x : Span). x.start) same, is),
      subst (IsRightAt b) (ap (λ (x : Span). x.start - 4) same ∙ sym is) (All-head (IsRight b) t ss right),
    )

-- none was found
pub none_found : (version : Version) (b : List ℕ) (used : ℕ) (ss : List Span) (stop : Option ℕ) → slice_get ss 0 ≡ None
    → AreRightFrames version b used ss stop → AreRightFrames version b used [] stop
none_found version b used [] stop e are = are
none_found version b used (s ∷ ss) stop e are = absurd cc
