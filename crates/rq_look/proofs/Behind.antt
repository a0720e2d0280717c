-- The lines of what stands behind a front, under way.
use Rattle.std.proofs.Common.{◌≡◌, ℕ, suc, ◌+◌, ◌≤◌, Bool, List, [], ◌∷◌, ◌++◌, length, Option, refl, sym, subst, append_assoc}
use Rattle.std.proofs.Common.{append-nil, arith}
use Rattle.std.specs.Prelude.{if◌then◌else◌}
use Rattle.rq_model.specs.Records.{Version}
use Rattle.rq_model.specs.Frames.{HasHeader}
use Rattle.rq_front.specs.declared.spans.Span.{Span}
use Rattle.rq_behind.specs.Behind.{StandApart}
use Rattle.rq_look.specs.declared.wanted.Wanted.{Wanted}
use Rattle.rq_look.specs.Dumps.{AreLinesBehind, IsLineBehind}
use Rattle.rq_look.specs.Looks.{Gathers}
use Rattle.rq_look.proofs.Gathered.{none_gathered, both_gathered}

-- the lines of some frames are put, and those of the others are left, of which so many may be shown
pub record IsUnderWay (b : List ℕ) (w : Wanted) (most : ℕ) (spans : List Span) (left : ℕ) (others : List Span)
    (begun text : List ℕ) (old now : Option (List ℕ)) : Type 0 where
  pub done : List ℕ
  pub gathers : Gathers done begun old text now
  pub from : ℕ
  pub apart : StandApart from (length b) others
  pub told : (version : Version) (more : List ℕ) → HasHeader version b → AreLinesBehind w version b left others more
      → AreLinesBehind w version b most spans (done ++ more)

-- no line is put yet
pub first_behind : (b : List ℕ) (w : Wanted) (most : ℕ) (spans : List Span) (text : List ℕ) (old : Option (List ℕ))
    → ((from : ℕ) × StandApart from (length b) spans) → IsUnderWay b w most spans most spans text text old old
first_behind b w most spans text old apart = record {
  done = [];
  gathers = none_gathered text old;
  from = apart.0;
  apart = apart.1;
  told = λ version more head lines. lines;
}

stands_within : (from end : ℕ) (ss : List Span) → StandApart from end ss → from ≤ end
stands_within from end [] h = h
stands_within from end (s ∷ ss) h =
    let rest = stands_within (s.start + s.len + 32) end ss h.1 in omega (arith, h.0, rest)

-- the body of the next one lies within the log
pub body_within : (from : ℕ) (b : List ℕ) (s : Span) (ss : List Span) → StandApart from (length b) (s ∷ ss)
    → s.start + s.len ≤ length b
body_within from b s ss h = let rest = stands_within (s.start + s.len + 32) (length b) ss h.1 in omega (arith, rest)

-- the line of the next one is put, if it is wanted
pub one_more : (b : List ℕ) (w : Wanted) (most : ℕ) (spans : List Span) (left : ℕ) (s : Span) (others : List Span)
    (begun text : List ℕ) (old now : Option (List ℕ)) (new : List ℕ) (last : Option (List ℕ)) (wanted : Bool) (line : List ℕ)
    (fewer next : ℕ) → IsUnderWay b w most spans left (s ∷ others) begun text old now → left ≡ suc fewer
    → next ≡ (if wanted then fewer else left)
    → ((version : Version) → HasHeader version b → IsLineBehind w version b s wanted line) → Gathers line text now new last
    → IsUnderWay b w most spans next others begun new old last
one_more b w most spans left s others begun text old now new last wanted line fewer next u some left_is is put = record {
  done = u.done ++ line;
  gathers = both_gathered u.done line begun text new old now last u.gathers put;
  from = s.start + s.len + 32;
  apart = u.apart.1;
  told = λ version more head lines.
      subst (AreLinesBehind w version b most spans) (sym (append_assoc u.done line more)) (u.told version (line ++ more) head
      (subst (λ (n : ℕ). AreLinesBehind w version b n (s ∷ others) (line ++ more)) (sym some) (
        wanted,
        line,
        more,
        is version head,
        subst (λ (n : ℕ). AreLinesBehind w version b (if wanted then fewer else n) others more) some
            (subst (λ (n : ℕ). AreLinesBehind w version b n others more) left_is lines),
        refl,
      )));
}

none_of : (w : Wanted) (version : Version) (b : List ℕ) (left : ℕ) (others : List Span) → left ≡ 0
    → AreLinesBehind w version b left others []
none_of w version b left [] none = refl
none_of w version b left (s ∷ ss) none = subst (λ (n : ℕ). AreLinesBehind w version b n (s ∷ ss) []) (sym none) refl

-- what is put once no more lines are
abbrev pub AreAllBehind : List ℕ → Wanted → ℕ → List Span → List ℕ → Option (List ℕ) → List ℕ → Option (List ℕ) → Type 0
AreAllBehind b w most spans begun old text now = (lines : List ℕ)
    × ((version : Version) → HasHeader version b → AreLinesBehind w version b most spans lines)
    × Gathers lines begun old text now

no_more : (b : List ℕ) (w : Wanted) (most : ℕ) (spans : List Span) (left : ℕ) (others : List Span) (begun text : List ℕ)
    (old now : Option (List ℕ)) → IsUnderWay b w most spans left others begun text old now
    → ((version : Version) → AreLinesBehind w version b left others []) → AreAllBehind b w most spans begun old text now
no_more b w most spans left others begun text old now u none = (
  u.done,
  λ version head. subst (AreLinesBehind w version b most spans) (append-nil u.done) (u.told version [] head (none version)),
  u.gathers,
)

-- as many lines are put as may be shown
pub enough_behind : (b : List ℕ) (w : Wanted) (most : ℕ) (spans : List Span) (left : ℕ) (others : List Span)
    (begun text : List ℕ) (old now : Option (List ℕ)) → IsUnderWay b w most spans left others begun text old now → left ≡ 0
    → AreAllBehind b w most spans begun old text now
enough_behind b w most spans left others begun text old now u none =
    no_more b w most spans left others begun text old now u (λ version. none_of w version b left others none)

-- the lines of all frames are put
pub all_behind : (b : List ℕ) (w : Wanted) (most : ℕ) (spans : List Span) (left : ℕ) (others : List Span)
    (begun text : List ℕ) (old now : Option (List ℕ)) → IsUnderWay b w most spans left others begun text old now
    → others ≡ [] → AreAllBehind b w most spans begun old text now
all_behind b w most spans left others begun text old now u ended =
    no_more b w most spans left others begun text old now u
    (λ version. subst (λ (ss : List Span). AreLinesBehind w version b left ss []) (sym ended) refl)
