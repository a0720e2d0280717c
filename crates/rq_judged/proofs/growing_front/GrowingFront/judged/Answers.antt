use Rattle.std.proofs.Common.{List, ℕ, subst, arith}
use Rattle.std.specs.Prelude.{IfOk}
use Rattle.rq_judged.specs.GrowingFronts.{IsStageOf}
use Rattle.rq_judged.specs.Windows.{IsFed, IsStoppedFront, Origin, log_origin}
use Rattle.rq_judged.proofs.Pieces.{judges, too_few}
use Rattle.std.proofs.lemmas.Result.{IfOk-weaker}
use Rattle.rq_judged.proofs.growing_front.GrowingFront.judged.Goals as goal

pub returns-in-Header : goal.returns-in-Header
returns-in-Header g c = λ b along.
    let (same, few) = subst (IsStageOf b) c.in-Header.is along in
    (omega (arith, few), too_few b few)

pub returns : goal.returns
returns g c = λ b along.
    let stopped : IfOk c.stopped.result
    (λ front. (o : Origin) (x : List ℕ) → IsFed o x c.in-Frames.pass → IsStoppedFront o x front) =
    IfOk-weaker c.stopped.result _ _ (λ front is. λ o x h. is o x (rw c.in-Frames.is h)) c.stopped.ensures.stopped in
    let (version, x, whole, follows) = subst (IsStageOf b) c.in-Frames.is along in
    judges version c.one_front.ensures.stops b x whole c.stopped.result
    (IfOk-weaker c.stopped.result _ _ (λ front is. is (log_origin version) x follows) stopped)
    c.stopped.ensures.refused
