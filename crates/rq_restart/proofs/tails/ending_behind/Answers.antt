use Rattle.std.proofs.Common.{◌≡◌, ◌++◌, ℕ, List, map, length, refl, inr, ◌∙◌, arith}
use Rattle.std.proofs.lemmas.Result.{err_from_is_err_and}
use Rattle.std.proofs.lemmas.List.{length-map}
use Rattle.rq_model.specs.Records as model
use Rattle.rq_model.specs.Frames.{frames_of}
use Rattle.rq_model.specs.Machine.{run}
use Rattle.rq_record.specs.Views.{record_of, version_of}
use Rattle.rq_state.specs.Views.{unit_of}
use Rattle.rq_catalog.proofs.Runs.{front_whole}
use Rattle.rq_restart.proofs.TailEnds.{crowded, fits}
use Rattle.rq_restart.proofs.tails.ending_behind.Goals as goal
use Rattle.rq_restart.proofs.tails.ending_behind.Goals.{In_ok-units}

abbrev records : In_ok-units → List model.Record
records c = map record_of c.args.from.now.front.records.items

abbrev units : In_ok-units → List ℕ
units c = map unit_of c.in_ok-units.units.items

-- the units that were found are those that are open after the front
are_open : (c : In_ok-units) → units c ≡ (run c.args.from.now.state (records c)).units
are_open c =
    let from = c.args.from.now in
    let is = c.requires.1 in
    c.in_ok-units.ensures.units ∙ is.analysis.units
    ∙ (λ i. (run from.state
    (front_whole (version_of from.version) from.state (records c) is.front.longest.begins.lawful i)).units)

pub returns-in_err-units-clause-refused : goal.returns-in_err-units-clause-refused
returns-in_err-units-clause-refused c =
    let p = err_from_is_err_and c.from_residual.result c.from_residual.ensures.1 in
    rw (p.1, p.2) (inr c.in_err-units.ensures.refused)

pub returns-then-len-front-clause-refused : goal.returns-then-len-front-clause-refused
returns-then-len-front-clause-refused c =
    let d = (goal.at.returns-then-len-front-clause-refused c).In_ok-units in
    let count : c.len.result ≡ length (units d) =
    omega (arith, c.len.ensures, length-map c.in_ok-units.units.items unit_of) in
    crowded c.args.bytes.now c.args.from.now (units d) c.len.result (are_open d) count
    (omega (arith, c.if-len-front.true))

pub returns-in_err-append_aborts-clause-refused : goal.returns-in_err-append_aborts-clause-refused
returns-in_err-append_aborts-clause-refused c =
    let p = err_from_is_err_and c.from_residual-in_err-append_aborts.result
    c.from_residual-in_err-append_aborts.ensures.1 in
    rw (p.1, p.2) (inr c.in_err-append_aborts.ensures.refused)

pub returns-clause-ending : goal.returns-clause-ending
returns-clause-ending c =
    let d = (goal.at.returns-clause-ending c).In_ok-units in
    let from = c.args.from.now in
    let is = c.requires.1 in
    let all : c.len-2.result ≡ length (records d) =
    omega (arith, c.len-2.ensures, length-map from.front.records.items record_of) in
    let count : c.len-3.result ≡ length (units d) =
    omega (arith, c.len-3.ensures, length-map c.in_ok-units.units.items unit_of) in
    let wrote = c.in_ok-append_aborts.ensures.bytes
    ∙ (λ i. c.new-tail.ensures.items i ++ frames_of (c.before-2.ensures i)
    (map model.Abort (map unit_of (c.deref.ensures.value i)))) in
    fits c.args.bytes.now from (units d) (record {
      version = from.version;
      end = record { used = from.front.end; records = c.len-2.result; why = from.front.why };
      units = c.len-3.result;
      tail = c.append_aborts.new.out;
    }) refl all (omega (arith, is.front.within, is.short)) (are_open d) count
    (omega (arith, c.len.ensures, c.len-3.ensures, c.if-len-front.false)) wrote
