use Rattle.rq_tool.proofs.commands.act.Goals as goal

pub returns-in-RestartAt-clause-acts : goal.returns-in-RestartAt-clause-acts
returns-in-RestartAt-clause-acts g c = rw c.in-RestartAt.is
    (λ b is. (c.run_at.ensures.runs b is, c.run_at.ensures.same b is))

pub returns-in-RestartAt-clause-quiet : goal.returns-in-RestartAt-clause-quiet
returns-in-RestartAt-clause-quiet g c = rw c.in-RestartAt.is c.run_at.ensures.quiet

pub returns-in-RestartAt-clause-accounts : goal.returns-in-RestartAt-clause-accounts
returns-in-RestartAt-clause-accounts g c = rw c.in-RestartAt.is
    (λ b is. (c.run_at.ensures.accounts b is, c.run_at.ensures.files b is))
