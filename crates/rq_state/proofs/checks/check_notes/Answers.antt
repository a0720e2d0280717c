use Rattle.std.proofs.Common.{arith, ◌∙◌}
use Rattle.rq_state.proofs.Telling.{tells_from}
use Rattle.rq_state.proofs.Tested.{notes_tested}
use Rattle.rq_state.proofs.checks.check_notes.Goals as goal

pub returns : goal.returns
returns c =
    let tested = notes_tested _ _ in
    tells_from _ _ _
    (λ t. grind arith)
    (λ k. c.are_notes.ensures ∙ tested.1 k.notes) c.kept-2.ensures
