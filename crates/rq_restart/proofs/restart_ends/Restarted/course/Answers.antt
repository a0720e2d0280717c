use Rattle.std.proofs.Common.{map, subst}
use Rattle.rq_model.specs.Fronts.{Restarted}
use Rattle.rq_model.specs.States.{Definition}
use Rattle.rq_exchange.specs.Courses.{StartsByLast}
use Rattle.rq_restart.proofs.restart_ends.Restarted.course.Goals as goal

pub returns : goal.returns
returns c =
    subst (λ (r : Restarted). StartsByLast (map (λ (d : Definition). d.error) r.state.definitions) c.self.inside.course)
    c.self.view_is c.self.invariant
