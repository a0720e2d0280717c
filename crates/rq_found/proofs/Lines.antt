-- The line of where a front ends.
use Rattle.std.proofs.Common.{◌≡◌, ℕ, List}
use Rattle.rq_model.specs.Fronts.{Restarted}
use Rattle.rq_judged.specs.FrontEnds.{IsEndOf}
use Rattle.rq_judged.specs.Views.{why_of}
use Rattle.rq_found.specs.Ends.{end_text, end_line}
use Rattle.rq_found.specs.declared.ends.End.{End}

-- the line of an end is that of the restart whose end it is
pub same_line : (r : Restarted) (end : End) (reason : List ℕ) → IsEndOf r end.front
    → end_text end.front.next end.front.used end.front.total (why_of end.front.why) reason ≡ end_line r reason
same_line r end reason e = λ i. end_text (e.next i) (e.used i) (e.total i) (e.why i) reason
