use Rattle.std.proofs.Common.{arith}
use Rattle.std.proofs.lemmas.List.{length-map}
use Rattle.rq_model.specs.States.{Definition}
use Rattle.rq_rows.proofs.replays.course_of.Goals as goal

pub returns : goal.returns
returns c = λ x near. c.course.ensures.once x
    (omega (arith, near, length-map c.args.restarted.now.state.definitions (λ (d : Definition). d.error)))
