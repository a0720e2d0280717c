use Rattle.rq_live.proofs.manager.Manager.len.Goals as goal

pub returns : goal.returns
returns g c = λ from rs m. m.at.len
