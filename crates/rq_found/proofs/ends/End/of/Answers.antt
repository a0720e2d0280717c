use Rattle.rq_found.proofs.ends.End.of.Goals as goal

pub returns-clause-end : goal.returns-clause-end
returns-clause-end g c =
    let found = c.in_ok-end.ensures.end in
    (found.0, found.1, c.in_ok-told.ensures.end found.0 found.2)
