use Rattle.std.proofs.Common.{◌≡◌, rules, sym, subst}
use Rattle.std.specs.Prelude.{Result, Err, IfErr}
use Rattle.rq_record.specs.declared.fault.Fault.{Fault}
use Rattle.rq_tool.specs.Streams.{TakesSome}
use Rattle.rq_tool.proofs.Reading.{reads_on, takes_on}
use Rattle.rq_tool.proofs.input.read_up_to.Goals as goal

pub returns-in_err-count-clause-partly : goal.returns-in_err-count-clause-partly
returns-in_err-count-clause-partly g c =
    let remaining = g.I.Input.remaining in
    let old = remaining c.args.input.now in
    let new = remaining c.read_more.new.input in
    let some = takes_on old (remaining c.loop-input.input) new c.loop-input.invariant.some
    c.in_err-count.ensures.partly in
    let answer : c.from_residual.result ≡ Err c.in_err-count.field-0.0 = search rules in
    subst (λ (r : Result (Unit {0}) Fault). IfErr r (λ _. TakesSome old new)) (sym answer) some

pub loop-input-preserved : goal.loop-input-preserved
loop-input-preserved g c =
    let remaining = g.I.Input.remaining in
    let old = remaining c.args.input.now in
    let mid = remaining c.loop-input.input in
    let new = remaining c.read_more.new.input in
    let more = c.in_ok-count.ensures.bytes in
    record {
      faults = search rules;
      read = reads_on old mid new c.args.bytes.now.items c.loop-input.bytes.items c.read_more.new.bytes.items more.0
          c.loop-input.invariant.read more.1 more.3;
      some = takes_on old mid new c.loop-input.invariant.some (more.0, more.3);
      limit = search rules;
      piece = search rules;
    }
