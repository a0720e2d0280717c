use Rattle.rq_live.proofs.manager.Manager.define.Goals as goal

pub returns-clause-done : goal.returns-clause-done
returns-clause-done g c = λ from rs m.
    let x = c.in_ok-take.ensures.taken from rs m in
    (x.0, x.1)
