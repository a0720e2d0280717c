use Rattle.std.proofs.Common.{List, ℕ, subst}
use Rattle.std.specs.Prelude.{Ok, Err}
use Rattle.std.specs.Global.{Vec}
use Rattle.std.proofs.lemmas.Result.{err_from_is_err_and}
use Rattle.rq_record.specs.Views.{version_of}
use Rattle.rq_report.specs.Streams.{Delivers}
use Rattle.rq_writer.specs.Made.{Made}
use Rattle.rq_tool.specs.Works.{HasNoLog, IsLogOf}
use Rattle.rq_tool.proofs.Made.{delivers_puts, puts_none, unmade}
use Rattle.rq_tool.proofs.made_logs.put_log.Goals as goal

pub returns-in_err-log : goal.returns-in_err-log
returns-in_err-log g c =
    let version = version_of c.args.version in
    let script = c.args.script.items in
    let e = c.in_err-log.field-0.0 in
    let made = subst (λ (xs : List ℕ). Made {X = Vec ℕ} version (λ v. v.items) xs (Err e)) c.deref.ensures.value
    c.in_err-log.ensures in
    let p = err_from_is_err_and c.from_residual.result c.from_residual.ensures.1 in
    rw (p.1, p.2) (puts_none (IsLogOf version script) (HasNoLog version script)
    (g.O.Output.faults c.args.output.now) (g.O.Output.contents c.args.output.now) e (λ no. no.1) (λ no. no.1)
    (unmade version script e c.requires.short made))

pub returns : goal.returns
returns g c =
    let version = version_of c.args.version in
    let script = c.args.script.items in
    let log = c.in_ok-log.log in
    let faults = g.O.Output.faults in
    let contents = g.O.Output.contents in
    let made = subst (λ (xs : List ℕ). Made {X = Vec ℕ} version (λ v. v.items) xs (Ok log)) c.deref.ensures.value
    c.in_ok-log.ensures in
    let wrote = subst (λ (xs : List ℕ). Delivers (faults c.args.output.now) (faults c.write_all.new.output)
    (contents c.args.output.now) (contents c.write_all.new.output) xs c.write_all.result) c.deref-2.ensures.value
    c.write_all.ensures in
    delivers_puts (IsLogOf version script) (HasNoLog version script) (faults c.args.output.now)
    (faults c.write_all.new.output) (contents c.args.output.now) (contents c.write_all.new.output)
    log.items c.write_all.result (c.requires.short, made) wrote
