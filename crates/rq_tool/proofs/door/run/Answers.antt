use Rattle.rq_tool.proofs.Accounted.{run_accounts}
use Rattle.rq_tool.proofs.Made.{writes_only, writes_runs}
use Rattle.rq_tool.proofs.door.run.Goals as goal

pub returns-clause-runs : goal.returns-clause-runs
returns-clause-runs g c = λ b is. writes_runs b (g.O.Output.contents c.args.output.now)
    (g.O.Output.contents c.through.new.output) c.through.result (c.through.ensures.writes b is)

pub returns-clause-quiet : goal.returns-clause-quiet
returns-clause-quiet g c =
    let some = c.through.ensures.quiet in
    writes_only some.0 (g.O.Output.contents c.args.output.now) (g.O.Output.contents c.through.new.output)
    c.through.result some.1

pub returns-clause-accounts : goal.returns-clause-accounts
returns-clause-accounts g c = λ b is.
    let runs = writes_runs b (g.O.Output.contents c.args.output.now) (g.O.Output.contents c.through.new.output)
    c.through.result (c.through.ensures.writes b is) in
    run_accounts c.reports_account.ensures.report c.reports_tell_clients.ensures.report b
    (g.O.Output.contents c.args.output.now) (g.O.Output.contents c.through.new.output) c.through.result runs
