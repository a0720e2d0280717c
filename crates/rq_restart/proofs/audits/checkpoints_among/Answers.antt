use Rattle.std.proofs.Common.{◌<◌, ◌∙◌, ◌++◌, List, ℕ, length, map, take, sym, ap, subst, arith, drop, ◌-◌}
use Rattle.std.specs.Prelude.{slice_index_or}
use Rattle.std.proofs.lemmas.List.{length-map, take_all}
use Rattle.rq_model.specs.Records.{Checkpoint}
use Rattle.rq_model.specs.States.{State}
use Rattle.rq_model.specs.Machine.{all_lawful, run}
use Rattle.rq_model.specs.Checkpoints.{Audited}
use Rattle.rq_record.specs.Views.{Record, record_of, version_of}
use Rattle.rq_front.specs.declared.spans.Span.{Span}
use Rattle.rq_restart.specs.Audits.{audit_of, audited_of, audits}
use Rattle.rq_restart.proofs.Walks.{found_further, lawful_between, nothing_further, run_between}
use Rattle.rq_restart.proofs.audits.checkpoints_among.Goals as goal

pub loop-place-init : goal.loop-place-init
loop-place-init g c = record {
  within = omega arith;
  state = c.in_ok-machine.ensures.made;
  found = λ at framed. ap (map audited_of) c.new-found.ensures.items;
}

pub bounds-spans-place : goal.bounds-spans-place
bounds-spans-place g c =
    let (at, framed) = c.requires.framed in
    (framed.stand c.loop-place.place (omega (arith, c.loop-place-test.true, length-map c.args.records.now record_of))).0

pub loop-place-preserved-in_default : goal.loop-place-preserved-in_default
loop-place-preserved-in_default g c =
    let before = c.loop-place.invariant in
    record {
      within = omega (arith, before.within);
      state = before.state;
      found = λ at framed. nothing_further c.args.state.now at c.args.records.now c.loop-place.place
          c.index-records-place.result (map audited_of c.loop-place.found.items) c.loop-place-test.true
          c.index-records-place.is c.in_default.not-Checkpoint (before.found at framed);
    }

pub tell_behind-requires-clause-lawful : goal.tell_behind-requires-clause-lawful
tell_behind-requires-clause-lawful g c κs within =
    let version = version_of c.args.version in
    let s = c.args.state.now in
    let all = c.args.records.now in
    let before = c.loop-place.invariant in
    ap (λ (t : State). all_lawful version t
    (map record_of (take (c.loop-place.place - c.loop-place.done) (drop c.loop-place.done all)))) before.state
    ∙ lawful_between version s all c.loop-place.done c.loop-place.place before.within c.requires.framed.1.lawful

pub loop-place-preserved : goal.loop-place-preserved
loop-place-preserved g c =
    let version = version_of c.args.version in
    let s = c.args.state.now in
    let all = c.args.records.now in
    let i = c.loop-place.place in
    let r = c.index-records-place.result in
    let is = c.index-records-place.is in
    let before = c.loop-place.invariant in
    let here = ap (λ (t : State). run t
    (map record_of (take (c.loop-place.place - c.loop-place.done) (drop c.loop-place.done all)))) before.state
    ∙ run_between s all c.loop-place.done i before.within in
    let told : List Audited = map audited_of c.loop-place.found.items in
    let at_place = c.offset-offset.result in
    let none : Span = record { start = 0; len = 0 } in
    let few : i < length (map record_of all) = omega (arith, c.loop-place-test.true, length-map all record_of) in
    record {
      within = omega arith;
      state = c.in_ok-tell_behind.ensures.state ∙ here;
      found = λ at framed.
          found_further s at all i r (slice_index_or c.args.spans.now i none).start at_place told
          (map audited_of c.tell_behind.new.found.items) c.loop-place-test.true is ((framed.stand i few).1 none)
          c.offset-offset.ensures (before.found at framed)
          (c.in_ok-tell_behind.ensures.found
          ∙ ap (λ (t : State). told ++ audit_of t at_place (Checkpoint c.bytes.result.now)) here
          ∙ ap (λ (kept : List ℕ). told ++ audit_of (run s (take i (map record_of all))) at_place (Checkpoint kept))
          c.bytes.ensures.bytes
          ∙ sym (ap (λ (q : Record). told ++ audit_of (run s (take i (map record_of all))) at_place (record_of q))
          c.in-Checkpoint.is));
    }

pub returns-clause-found : goal.returns-clause-found
returns-clause-found g c = λ at framed.
    let rs = map record_of c.args.records.now in
    c.loop-place.invariant.found at framed
    ∙ ap (audits c.args.state.now at)
    (take_all c.loop-place.place rs (omega (arith, c.loop-place-test.false, length-map c.args.records.now record_of)))
