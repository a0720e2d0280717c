use Rattle.std.proofs.Common.{◌≤◌, List, ℕ, length, subst, sym}
use Rattle.std.specs.Prelude.{Ok, Err}
use Rattle.std.proofs.lemmas.Result.{err_from_is_err_and}
use Rattle.rq_record.specs.Views.{version_of}
use Rattle.rq_tool.specs.Streams.{IsOverlong, ReadsFile, Writes}
use Rattle.rq_tool.specs.Works.{HasNoLog, IsLogOf}
use Rattle.rq_tool.proofs.Reading.{all_taken, told_of}
use Rattle.rq_tool.proofs.Made.{puts_writes, unread_writes, overlong}
use Rattle.rq_tool.proofs.made_logs.make_log_in.Goals as goal

pub returns-in_err-script-clause-makes : goal.returns-in_err-script-clause-makes
returns-in_err-script-clause-makes g c = λ b is.
    let version = version_of c.args.version in
    let e = c.in_err-script.field-0.0 in
    let read = told_of (λ (z : List ℕ). ReadsFile IsOverlong z (Err e)) (g.I.Input.remaining c.args.input.now)
    c.in_err-script.ensures.reads b is in
    let p = err_from_is_err_and c.from_residual.result c.from_residual.ensures.1 in
    rw (p.1, p.2) (unread_writes (IsLogOf version b) (HasNoLog version b) IsOverlong
    (g.O.Output.faults c.args.output.now) (g.O.Output.contents c.args.output.now) b e (overlong version b)
    (λ no. no) read).0

pub returns-in_err-script-clause-quiet : goal.returns-in_err-script-clause-quiet
returns-in_err-script-clause-quiet g c =
    let version = version_of c.args.version in
    let e = c.in_err-script.field-0.0 in
    let read = c.in_err-script.ensures.reads in
    let p = err_from_is_err_and c.from_residual.result c.from_residual.ensures.1 in
    rw (p.1, p.2) (
      read.0,
      (unread_writes (IsLogOf version read.0) (HasNoLog version read.0) IsOverlong
          (g.O.Output.faults c.args.output.now) (g.O.Output.contents c.args.output.now) read.0 e
          (overlong version read.0) (λ no. no) read.2).0,
    )

pub returns-in_err-script-clause-write_faults : goal.returns-in_err-script-clause-write_faults
returns-in_err-script-clause-write_faults g c =
    let version = version_of c.args.version in
    let e = c.in_err-script.field-0.0 in
    let read = c.in_err-script.ensures.reads in
    let p = err_from_is_err_and c.from_residual.result c.from_residual.ensures.1 in
    rw (p.1, p.2) (unread_writes (IsLogOf version read.0) (HasNoLog version read.0) IsOverlong
    (g.O.Output.faults c.args.output.now) (g.O.Output.contents c.args.output.now) read.0 e
    (overlong version read.0) (λ no. no) read.2).1

pub put_log-requires-clause-short : goal.put_log-requires-clause-short
put_log-requires-clause-short g c κs within =
    let read = c.in_ok-script.ensures.reads in
    subst (λ (z : List ℕ). length z ≤ 4294967295) (sym read.2.0) read.2.1

pub returns-clause-makes : goal.returns-clause-makes
returns-clause-makes g c = λ b is.
    let version = version_of c.args.version in
    let old = g.O.Output.contents c.args.output.now in
    let new = g.O.Output.contents c.put_log.new.output in
    let script = c.in_ok-script.script in
    let read = told_of (λ (z : List ℕ). ReadsFile IsOverlong z (Ok script)) (g.I.Input.remaining c.args.input.now)
    c.in_ok-script.ensures.reads b is in
    subst (λ (z : List ℕ). Writes (IsLogOf version z) (HasNoLog version z) old new c.put_log.result) read.0
    (puts_writes (IsLogOf version script.items) (HasNoLog version script.items)
    (g.I.Input.faults c.args.input.now) (g.I.Input.faults c.read_script.new.input)
    (g.O.Output.faults c.args.output.now) (g.O.Output.faults c.put_log.new.output) old new c.put_log.result
    c.in_ok-script.ensures.count c.put_log.ensures).0

pub returns-clause-quiet : goal.returns-clause-quiet
returns-clause-quiet g c =
    let version = version_of c.args.version in
    let script = c.in_ok-script.script.items in (
      script,
      (puts_writes (IsLogOf version script) (HasNoLog version script)
          (g.I.Input.faults c.args.input.now) (g.I.Input.faults c.read_script.new.input)
          (g.O.Output.faults c.args.output.now) (g.O.Output.faults c.put_log.new.output)
          (g.O.Output.contents c.args.output.now) (g.O.Output.contents c.put_log.new.output) c.put_log.result
          c.in_ok-script.ensures.count c.put_log.ensures).0,
    )

pub returns-clause-takes : goal.returns-clause-takes
returns-clause-takes g c =
    let taken = c.in_ok-script.ensures.takes in
    all_taken (g.I.Input.remaining c.args.input.now) (g.I.Input.remaining c.read_script.new.input) taken.0 c.put_log.result
    taken.1

pub returns-clause-read_faults : goal.returns-clause-read_faults
returns-clause-read_faults g c =
    let version = version_of c.args.version in
    let script = c.in_ok-script.script.items in
    (puts_writes (IsLogOf version script) (HasNoLog version script)
    (g.I.Input.faults c.args.input.now) (g.I.Input.faults c.read_script.new.input)
    (g.O.Output.faults c.args.output.now) (g.O.Output.faults c.put_log.new.output)
    (g.O.Output.contents c.args.output.now) (g.O.Output.contents c.put_log.new.output) c.put_log.result
    c.in_ok-script.ensures.count c.put_log.ensures).1

pub returns-clause-write_faults : goal.returns-clause-write_faults
returns-clause-write_faults g c =
    let version = version_of c.args.version in
    let script = c.in_ok-script.script.items in
    (puts_writes (IsLogOf version script) (HasNoLog version script)
    (g.I.Input.faults c.args.input.now) (g.I.Input.faults c.read_script.new.input)
    (g.O.Output.faults c.args.output.now) (g.O.Output.faults c.put_log.new.output)
    (g.O.Output.contents c.args.output.now) (g.O.Output.contents c.put_log.new.output) c.put_log.result
    c.in_ok-script.ensures.count c.put_log.ensures).2
