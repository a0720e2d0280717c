-- A carried file that is opened to write behind its front.
use Rattle.std.specs.Prelude.{◌≡◌, ℕ, List, [], Result, Ok, Err}
use Rattle.rq_model.specs.Carrying.{carried_at}
use Rattle.rq_record.specs.declared.fault.Fault.{Fault}
use Rattle.rq_judged.specs.declared.judged.JudgedFront.{JudgedFront}
use Rattle.rq_judged.specs.JudgedFronts.{IsJudgedAt}
use Rattle.rq_judged.specs.Refusals.{RefusedCarried}
use Rattle.rq_journal.specs.Growths.{IsGrownFrom}
use Rattle.rq_journal.specs.declared.growths.Growth.{Growth}

-- it stands behind the front of a carried file that is read as the log b, from the checkpoint at an
-- offset, with no records yet, and tells where that ends, and why
pub record IsOpenedAt (b : List ℕ) (offset : ℕ) (g : Growth) : Type 0 where
  pub front : JudgedFront
  pub judged : IsJudgedAt b offset front
  pub end : g.end ≡ front.end
  pub grown : IsGrownFrom b offset [] g

-- that, from the checkpoint that the file begins with; or why b is refused
abbrev pub OpensCarried : List ℕ → Result Growth Fault → Type 0
OpensCarried b (Ok g) = IsOpenedAt b carried_at g
OpensCarried b (Err e) = RefusedCarried b carried_at e
