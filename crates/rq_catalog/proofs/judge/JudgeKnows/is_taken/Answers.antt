use Rattle.rq_catalog.proofs.judge.JudgeKnows.is_taken.Goals as goal

pub returns : goal.returns
returns c = λ s stands. c.has_name.ensures s stands.knows
