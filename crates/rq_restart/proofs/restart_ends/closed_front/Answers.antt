use Rattle.std.proofs.Common.{◌≡◌, ◌≤◌, ◌+◌, true, List, ◌++◌, ℕ, length, map, ap, refl, sym, subst, ◌∙◌, arith}
use Rattle.std.proofs.lemmas.List.{length-append, length-map}
use Rattle.rq_model.specs.Records as model
use Rattle.rq_model.specs.States.{Definition, State}
use Rattle.rq_model.specs.Machine.{run, all_lawful}
use Rattle.rq_record.specs.Views.{record_of}
use Rattle.rq_state.specs.Views.{unit_of}
use Rattle.rq_catalog.specs.Analyses.{open_in}
use Rattle.rq_catalog.proofs.Runs.{front_whole}
use Rattle.rq_exchange.specs.Courses.{StartsByLast}
use Rattle.rq_judged.specs.Views.{why_of}
use Rattle.rq_restart.proofs.Closings.{AreClosed, closed, answered, few_open}
use Rattle.rq_restart.proofs.restart_ends.closed_front.Goals as goal
use Rattle.rq_restart.proofs.restart_ends.closed_front.Goals.{After-deref, In_ok-append_aborts}

abbrev before : (g : _) → After-deref g → List model.Record
before g c = map record_of c.args.front.records.items

-- the records, and behind them the aborts of the units that are open then
abbrev all : (g : _) → After-deref g → List model.Record
all g c = before g c ++ map model.Abort (open_in c.args.front.analysis)

-- the pass found the units that are open after the records
are_open : (g : _) (c : After-deref g)
    → open_in c.args.front.analysis ≡ (run c.args.state (before g c)).units
are_open g c = c.requires.analysed.units
    ∙ ap (λ (xs : List model.Record). (run c.args.state xs).units)
    (front_whole model.Two c.args.state (before g c) c.requires.lawful)

are_closed : (g : _) (c : After-deref g) → AreClosed model.Two c.args.state (before g c) (all g c)
are_closed g c = closed model.Two c.crash_is_harmless.ensures c.runs_are_well_formed.ensures.runs
    c.args.state (before g c) (all g c) (open_in c.args.front.analysis) c.is_well_formed.ensures c.requires.lawful
    (are_open g c) refl

-- each unit that is open was open before the records, or one of them began it
few : (g : _) (c : After-deref g)
    → length (open_in c.args.front.analysis) ≤ length c.args.state.units + length c.args.front.records.items
few g c =
    omega (
      arith,
      few_open model.Two c.numbers_after.ensures c.args.state (before g c) c.is_well_formed.ensures c.requires.lawful,
      ap length (are_open g c),
      length-map c.args.front.records.items record_of,
    )

pub closing_agenda-requires-clause-fits : goal.closing_agenda-requires-clause-fits
closing_agenda-requires-clause-fits g c =
    omega (arith, few g c, c.requires.fits, ap length c.deref.ensures.value)

pub closing_agenda-requires-clause-lawful : goal.closing_agenda-requires-clause-lawful
closing_agenda-requires-clause-lawful g c = rw c.deref.ensures.value (are_closed g c).lawful

pub closing_agenda-requires-clause-analysed : goal.closing_agenda-requires-clause-analysed
closing_agenda-requires-clause-analysed g c = rw c.deref.ensures.value c.requires.analysed

-- behind the records stand the aborts
whole : (g : _) (c : In_ok-append_aborts g) → map record_of c.append_aborts.new.records.items
    ≡ map record_of c.args.front.records.items ++ map model.Abort (open_in c.args.front.analysis)
whole g c = c.in_ok-append_aborts.ensures.records
    ∙ ap (λ (us : List ℕ). map record_of c.args.front.records.items ++ map model.Abort us)
    c.in_ok-agenda.ensures.units

pub redone-requires-clause-lawful : goal.redone-requires-clause-lawful
redone-requires-clause-lawful g c κs within =
    let d = (goal.at.redone-requires-clause-lawful g c).After-deref in
    subst (λ (rs : List model.Record). all_lawful model.Two c.args.state rs ≡ true) (sym (whole g c))
    (are_closed g d).lawful

pub redone-requires-clause-fits : goal.redone-requires-clause-fits
redone-requires-clause-fits g c =
    let d = (goal.at.redone-requires-clause-fits g c).After-deref in
    let e = (goal.at.redone-requires-clause-fits g c).In_ok-append_aborts in
    let units = open_in c.args.front.analysis in
    omega (
      arith,
      few g d,
      c.requires.fits,
      ap length (whole g e),
      length-map c.append_aborts.new.records.items record_of,
      length-map c.args.front.records.items record_of,
      length-append (map record_of c.args.front.records.items) (map model.Abort units),
      length-map units model.Abort,
    )

pub returns-clause-answer : goal.returns-clause-answer
returns-clause-answer g c =
    let s = c.args.state in
    let d = (goal.at.returns-clause-answer g c).After-deref in
    let e = (goal.at.returns-clause-answer g c).In_ok-append_aborts in
    let rs = before g d in
    let next : c.next.result + c.len.result ≡ s.next + length rs =
    omega (
      arith,
      c.next.ensures.next,
      c.len.ensures,
      c.args.front.records.ok.0,
      length-map c.args.front.records.items record_of,
    ) in
    let cut : c.len-cut_off.result ≡ length (open_in c.args.front.analysis) =
    omega (
      arith,
      c.len-cut_off.ensures,
      c.in_ok-agenda.units.ok.0,
      length-map c.in_ok-agenda.units.items unit_of,
      ap length c.in_ok-agenda.ensures.units,
    ) in
    let here = front_whole model.Two s rs c.requires.lawful in
    answered model.Two c.numbers_after.ensures s c.in_ok-state.state rs (all g d) _ _ _ _ _ _ _
    (open_in c.args.front.analysis) (why_of c.args.front.why) c.is_well_formed.ensures c.requires.lawful
    (are_closed g d) (c.in_ok-state.ensures.state ∙ ap (run s) (whole g e))
    (omega (arith, c.requires.within)) next
    (c.committed-committed.ensures ∙ c.requires.analysed.committed
    ∙ ap (λ (xs : List model.Record). (run s xs).committed) here)
    (c.aborted-aborted.ensures ∙ c.requires.analysed.aborted
    ∙ ap (λ (xs : List model.Record). (run s xs).aborted) here) (are_open g d) cut

-- the course is that of the state that is answered
pub invariant_of-result : goal.invariant_of-result
invariant_of-result g c =
    subst (λ (t : State). StartsByLast (map (λ (d : Definition). d.error) t.definitions) c.in_ok-state.course)
    (sym c.in_ok-state.ensures.state) c.in_ok-state.ensures.course
