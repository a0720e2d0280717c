-- Each place behind a front is looked at, one after the other.
use Rattle.std.proofs.Common.{ℕ, ◌+◌, ◌<◌, ◌≤◌, List, length, sym, subst, arith, below_more}
use Rattle.rq_model.specs.Records.{Version}
use Rattle.rq_behind.specs.Scans.{HasRecordAt, HasNoRecordBefore, IsSeenAt, Scans}
use Rattle.rq_behind.specs.declared.scan.Scan.{Scan}
use Rattle.rq_behind.specs.declared.scan.Scan.TheVariants.{Clear, At, GaveUp}

-- no right record stands at one place more
pub none_more : (version : Version) (b : List ℕ) (from at : ℕ) → HasNoRecordBefore version b from at
    → (HasRecordAt version b at → ⊥) → HasNoRecordBefore version b from (at + 1)
none_more version b from at none here = λ q low lt.
    below_more (λ k. from ≤ k → HasRecordAt version b k → ⊥) at (λ k less above. none k above less) (λ above. here) q lt low

-- what is seen at a place is what is found from the offset on
pub seen : (version : Version) (b : List ℕ) (from at : ℕ) (found : Scan) → from ≤ at → at < length b
    → HasNoRecordBefore version b from at → IsSeenAt version b at found → Scans version b from found
seen version b from at Clear low high none is = absurd is
seen version b from at (At p) low high none is = (
  omega (arith, is.0, low),
  subst (HasRecordAt version b) (sym is.0) is.1,
  subst (HasNoRecordBefore version b from) (sym is.0) none,
)
seen version b from at (GaveUp p) low high none is = (omega (arith, is, low), omega (arith, is, high))
