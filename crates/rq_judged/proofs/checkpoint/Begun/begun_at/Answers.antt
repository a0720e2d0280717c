use Rattle.std.proofs.Common.{◌≡◌, List, sym, subst, rules}
use Rattle.std.specs.Prelude.{Some, None, Result, Err}
use Rattle.rq_record.specs.declared.fault.Fault.{Fault}
use Rattle.rq_record.specs.Views.{version_of}
use Rattle.rq_front.specs.declared.spans.Span.{Span}
use Rattle.rq_front.specs.Chains.{bodies_at}
use Rattle.rq_judged.specs.declared.checkpoint.Begun.{Begun}
use Rattle.rq_judged.specs.Checkpoints.{BeginsAt, kept_in}
use Rattle.rq_judged.proofs.Checkpoints.{begun_at, chain_at, none_at, read_begins}
use Rattle.rq_judged.proofs.checkpoint.Begun.begun_at.Goals as goal

pub returns-in_default : goal.returns-in_default
returns-in_default g c =
    let b = c.args.bytes.now in
    let is = c.in_ok-found.ensures in
    let chain = chain_at is.log.1.0 c.frames_join.ensures.end b c.args.offset c.chain_start-start.result
    c.in_ok-found.found c.chain_start-start.ensures is.log.0 is.log.1.1 is.run is.spans is.inside in
    let none = subst (λ (ss : List Span). kept_in (bodies_at b ss) ≡ None) c.deref.ensures.value
    (sym c.in_default.ensures) in (
      is.log.0,
      is.log.1,
      λ kept at. none_at c.frames_are_right.ensures.right b c.args.offset c.in_ok-found.found kept
          chain none at,
    )

pub returns-in_err-state : goal.returns-in_err-state
returns-in_err-state g c =
    let b = c.args.bytes.now in
    let is = c.in_ok-found.ensures in
    let kept = c.in-Some.kept.now in
    let chain = chain_at is.log.1.0 c.frames_join.ensures.end b c.args.offset c.chain_start-start.result
    c.in_ok-found.found c.chain_start-start.ensures is.log.0 is.log.1.1 is.run is.spans is.inside in
    let some = subst (λ (ss : List Span). kept_in (bodies_at b ss) ≡ Some kept) c.deref.ensures.value
    (sym c.in-Some.ensures) in
    let begun = begun_at c.frames_are_right.ensures.right b c.args.offset c.in_ok-found.found kept chain some in
    let answer : c.from_residual-in_err-state.result ≡ Err c.in_err-state.field-0.0 = search rules in
    subst (λ (r : Result Begun Fault). BeginsAt c.args.most b c.args.offset r) (sym answer)
    (read_begins c.args.most (version_of c.in_ok-version.version) b c.args.offset kept c.in_err-state.field-0.0 is.log.0
    c.in_ok-version.ensures.header begun.1 c.in_err-state.ensures)

pub returns : goal.returns
returns g c =
    let b = c.args.bytes.now in
    let is = c.in_ok-found.ensures in
    let kept = c.in-Some.kept.now in
    let chain = chain_at is.log.1.0 c.frames_join.ensures.end b c.args.offset c.chain_start-start.result
    c.in_ok-found.found c.chain_start-start.ensures is.log.0 is.log.1.1 is.run is.spans is.inside in
    let some = subst (λ (ss : List Span). kept_in (bodies_at b ss) ≡ Some kept) c.deref.ensures.value
    (sym c.in-Some.ensures) in
    let begun = begun_at c.frames_are_right.ensures.right b c.args.offset c.in_ok-found.found kept chain some in
    record {
      header = c.in_ok-version.ensures.header;
      chain = begun.0;
      kept = kept;
      checkpoint = begun.1;
      spells = c.in_ok-state.ensures;
    }
