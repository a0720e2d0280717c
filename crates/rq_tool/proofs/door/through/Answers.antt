use Rattle.std.proofs.Common.{List, ℕ, subst}
use Rattle.std.specs.Prelude.{Ok, Err}
use Rattle.std.proofs.lemmas.Result.{err_from_is_err_and}
use Rattle.rq_front.specs.Chains.{Refused}
use Rattle.rq_tool.specs.Streams.{ReadsFile, Writes}
use Rattle.rq_tool.specs.Works.{IsTextOf, IsWhyNot}
use Rattle.rq_tool.proofs.Reading.{all_taken, told_of}
use Rattle.rq_tool.proofs.Made.{refuses, puts_writes, unread_writes}
use Rattle.rq_tool.proofs.door.through.Goals as goal

pub returns-in_err-bytes-clause-writes : goal.returns-in_err-bytes-clause-writes
returns-in_err-bytes-clause-writes g c = λ b is.
    let work = c.args.work in
    let e = c.in_err-bytes.field-0.0 in
    let read = told_of (λ (z : List ℕ). ReadsFile Refused z (Err e)) (g.I.Input.remaining c.args.input.now)
    c.in_err-bytes.ensures.reads b is in
    let p = err_from_is_err_and c.from_residual.result c.from_residual.ensures.1 in
    rw (p.1, p.2) (unread_writes (IsTextOf work b) (IsWhyNot work b) Refused
    (g.O.Output.faults c.args.output.now) (g.O.Output.contents c.args.output.now) b e (refuses work b)
    (λ no. no) read).0

pub returns-in_err-bytes-clause-quiet : goal.returns-in_err-bytes-clause-quiet
returns-in_err-bytes-clause-quiet g c =
    let work = c.args.work in
    let e = c.in_err-bytes.field-0.0 in
    let read = c.in_err-bytes.ensures.reads in
    let p = err_from_is_err_and c.from_residual.result c.from_residual.ensures.1 in
    rw (p.1, p.2) (
      read.0,
      (unread_writes (IsTextOf work read.0) (IsWhyNot work read.0) Refused
          (g.O.Output.faults c.args.output.now) (g.O.Output.contents c.args.output.now) read.0 e
          (refuses work read.0) (λ no. no) read.2).0,
    )

pub returns-in_err-bytes-clause-write_faults : goal.returns-in_err-bytes-clause-write_faults
returns-in_err-bytes-clause-write_faults g c =
    let work = c.args.work in
    let e = c.in_err-bytes.field-0.0 in
    let read = c.in_err-bytes.ensures.reads in
    let p = err_from_is_err_and c.from_residual.result c.from_residual.ensures.1 in
    rw (p.1, p.2) (unread_writes (IsTextOf work read.0) (IsWhyNot work read.0) Refused
    (g.O.Output.faults c.args.output.now) (g.O.Output.contents c.args.output.now) read.0 e
    (refuses work read.0) (λ no. no) read.2).1

pub returns-clause-writes : goal.returns-clause-writes
returns-clause-writes g c = λ b is.
    let work = c.args.work in
    let old = g.O.Output.contents c.args.output.now in
    let new = g.O.Output.contents c.put.new.output in
    let bytes = c.in_ok-bytes.bytes in
    let read = told_of (λ (z : List ℕ). ReadsFile Refused z (Ok bytes)) (g.I.Input.remaining c.args.input.now)
    c.in_ok-bytes.ensures.reads b is in
    subst (λ (z : List ℕ). Writes (IsTextOf work z) (IsWhyNot work z) old new c.put.result) read.0
    (puts_writes (IsTextOf work bytes.items) (IsWhyNot work bytes.items)
    (g.I.Input.faults c.args.input.now) (g.I.Input.faults c.read_log.new.input)
    (g.O.Output.faults c.args.output.now) (g.O.Output.faults c.put.new.output) old new c.put.result
    c.in_ok-bytes.ensures.count c.put.ensures).0

pub returns-clause-quiet : goal.returns-clause-quiet
returns-clause-quiet g c =
    let work = c.args.work in
    let bytes = c.in_ok-bytes.bytes.items in (
      bytes,
      (puts_writes (IsTextOf work bytes) (IsWhyNot work bytes)
          (g.I.Input.faults c.args.input.now) (g.I.Input.faults c.read_log.new.input)
          (g.O.Output.faults c.args.output.now) (g.O.Output.faults c.put.new.output)
          (g.O.Output.contents c.args.output.now) (g.O.Output.contents c.put.new.output) c.put.result
          c.in_ok-bytes.ensures.count c.put.ensures).0,
    )

pub returns-clause-takes : goal.returns-clause-takes
returns-clause-takes g c =
    let taken = c.in_ok-bytes.ensures.takes in
    all_taken (g.I.Input.remaining c.args.input.now) (g.I.Input.remaining c.read_log.new.input) taken.0 c.put.result
    taken.1

pub returns-clause-read_faults : goal.returns-clause-read_faults
returns-clause-read_faults g c =
    let work = c.args.work in
    let bytes = c.in_ok-bytes.bytes.items in
    (puts_writes (IsTextOf work bytes) (IsWhyNot work bytes)
    (g.I.Input.faults c.args.input.now) (g.I.Input.faults c.read_log.new.input)
    (g.O.Output.faults c.args.output.now) (g.O.Output.faults c.put.new.output)
    (g.O.Output.contents c.args.output.now) (g.O.Output.contents c.put.new.output) c.put.result
    c.in_ok-bytes.ensures.count c.put.ensures).1

pub returns-clause-write_faults : goal.returns-clause-write_faults
returns-clause-write_faults g c =
    let work = c.args.work in
    let bytes = c.in_ok-bytes.bytes.items in
    (puts_writes (IsTextOf work bytes) (IsWhyNot work bytes)
    (g.I.Input.faults c.args.input.now) (g.I.Input.faults c.read_log.new.input)
    (g.O.Output.faults c.args.output.now) (g.O.Output.faults c.put.new.output)
    (g.O.Output.contents c.args.output.now) (g.O.Output.contents c.put.new.output) c.put.result
    c.in_ok-bytes.ensures.count c.put.ensures).2
