use Rattle.std.proofs.Common.{ℕ, ◌+◌, ◌∙◌, sym, ap}
use Rattle.rq_model.specs.States.{State}
use Rattle.rq_live.specs.Managers.{stand_of}
use Rattle.rq_live.proofs.Managing.{begin_stops}
use Rattle.rq_live.proofs.manager.Manager.begin.Goals as goal

pub returns-then-greatest-clause-refused : goal.returns-then-greatest-clause-refused
returns-then-greatest-clause-refused g c = λ from rs m.
    (m, sym (c.greatest-greatest.ensures ∙ ap (λ (s : State). s.greatest) m.at.state) ∙ c.if-greatest.true)

pub returns-in-Ok-clause-begun : goal.returns-in-Ok-clause-begun
returns-in-Ok-clause-begun g c = λ from rs m.
    let x = c.in-Ok.ensures.taken from rs m in
    (x.0, ap (λ (n : ℕ). n + 1) (c.greatest-greatest.ensures ∙ ap (λ (s : State). s.greatest) m.at.state))

pub returns-clause-refused : goal.returns-clause-refused
returns-clause-refused g c =
    begin_stops (stand_of g.D.Device.written g.D.Device.synced g.D.Device.doubted g.D.Device.failed c.args.self.now)
    (stand_of g.D.Device.written g.D.Device.synced g.D.Device.doubted g.D.Device.failed c.take.new.self)
    c.greatest-greatest.result
    c.in-Err.why (λ from rs m. c.greatest-greatest.ensures ∙ ap (λ (s : State). s.greatest) m.at.state)
    c.in-Err.ensures.refused
