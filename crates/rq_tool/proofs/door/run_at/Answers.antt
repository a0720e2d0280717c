use Rattle.std.proofs.Common.{◌≡◌, List, ℕ}
use Rattle.rq_model.specs.Checkpoints.{IsReportAt}
use Rattle.rq_model.specs.Reports.{IsReport}
use Rattle.rq_front.specs.Chains.{IsLog}
use Rattle.rq_judged.specs.Refusals.{RefusedAt}
use Rattle.rq_record.specs.declared.fault.Fault.TheVariants.{Resources}
use Rattle.rq_tool.specs.Works.{HasNoReportAt}
use Rattle.rq_tool.proofs.Accounted.{files_account, report_accounts}
use Rattle.rq_tool.proofs.Made.{writes_else}
use Rattle.rq_tool.proofs.door.run_at.Goals as goal

pub returns-clause-runs : goal.returns-clause-runs
returns-clause-runs g c = λ b is.
    let text = λ (text : List ℕ). IsLog b × IsReportAt b c.args.offset text in
    writes_else text text (HasNoReportAt b c.args.offset) (RefusedAt b c.args.offset)
    (g.O.Output.contents c.args.output.now) (g.O.Output.contents c.through.new.output) c.through.result
    (λ _ is. is) (λ _ why. why.0) (c.through.ensures.writes b is)

pub returns-clause-same : goal.returns-clause-same
returns-clause-same g c = λ b is true_at.
    writes_else (λ text. IsLog b × IsReportAt b c.args.offset text) (IsReport b) (HasNoReportAt b c.args.offset)
    (λ e. e ≡ Resources) (g.O.Output.contents c.args.output.now) (g.O.Output.contents c.through.new.output)
    c.through.result (λ text is. (c.true_checkpoints_report_the_same.ensures b c.args.offset text true_at).0 is.1)
    (λ _ why. why.1 true_at) (c.through.ensures.writes b is)

pub returns-clause-quiet : goal.returns-clause-quiet
returns-clause-quiet g c =
    let some = c.through.ensures.quiet in
    let b = some.0 in
    let text = λ (text : List ℕ). IsLog b × IsReportAt b c.args.offset text in (
      b,
      writes_else text text (HasNoReportAt b c.args.offset) (RefusedAt b c.args.offset)
          (g.O.Output.contents c.args.output.now) (g.O.Output.contents c.through.new.output) c.through.result
          (λ _ is. is) (λ _ why. why.0) some.1,
    )

pub returns-clause-accounts : goal.returns-clause-accounts
returns-clause-accounts g c = λ b is true_at.
    report_accounts c.true_checkpoints_report_the_same.ensures c.reports_account.ensures.report
    c.reports_tell_clients.ensures.report b c.args.offset true_at (g.O.Output.contents c.args.output.now)
    (g.O.Output.contents c.through.new.output) c.through.result (c.through.ensures.writes b is)

pub returns-clause-files : goal.returns-clause-files
returns-clause-files g c = λ b is.
    files_account c.all_files_account.ensures.report c.reports_tell_clients.ensures.files b c.args.offset
    (g.O.Output.contents c.args.output.now) (g.O.Output.contents c.through.new.output) c.through.result
    (c.through.ensures.writes b is)
