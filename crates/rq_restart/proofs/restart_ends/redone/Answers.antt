use Rattle.std.proofs.Common.{◌≡◌, true, List, length, map, sym, ap, ◌∙◌, subst, arith}
use Rattle.std.proofs.lemmas.List.{length-map}
use Rattle.rq_model.specs.Records as model
use Rattle.rq_model.specs.States.{Definition, State}
use Rattle.rq_model.specs.Machine.{run, all_lawful}
use Rattle.rq_record.specs.Views.{record_of}
use Rattle.rq_exchange.specs.Agendas.{IsAgenda}
use Rattle.rq_exchange.specs.Courses.{StartsByLast}
use Rattle.rq_exchange.specs.Gathering.{IsRedoneTo}
use Rattle.rq_restart.specs.Restarts.{first_cleared}
use Rattle.rq_restart.proofs.Closings.{run_cleared, lawful_cleared, agenda_cleared, length_cleared}
use Rattle.rq_restart.proofs.restart_ends.redone.Goals as goal
use Rattle.rq_restart.proofs.restart_ends.redone.Goals.{After-deref}

-- the records that are redone spell nothing at first
whole : (g : _) (c : After-deref g)
    → map record_of c.deref.result.now ≡ first_cleared (map record_of c.args.records.items)
whole g c = ap (map record_of) c.deref.ensures.value ∙ c.clear_first.ensures

pub redo_agenda-requires-clause-lawful : goal.redo_agenda-requires-clause-lawful
redo_agenda-requires-clause-lawful g c κs within =
    let d = (goal.at.redo_agenda-requires-clause-lawful g c).After-deref in
    let rs = map record_of c.args.records.items in
    subst (λ (xs : List model.Record). all_lawful model.Two c.args.state xs ≡ true) (sym (whole g d))
    (lawful_cleared model.Two c.args.state rs ∙ c.requires.lawful)

pub redo_agenda-requires-clause-fits : goal.redo_agenda-requires-clause-fits
redo_agenda-requires-clause-fits g c κs within =
    let d = (goal.at.redo_agenda-requires-clause-fits g c).After-deref in
    omega (
      arith,
      c.requires.fits,
      length-map c.args.records.items record_of,
      length-map c.deref.result.now record_of,
      ap length (whole g d),
      length_cleared (map record_of c.args.records.items),
    )

pub redo_agenda-requires-clause-agenda : goal.redo_agenda-requires-clause-agenda
redo_agenda-requires-clause-agenda g c κs within =
    let d = (goal.at.redo_agenda-requires-clause-agenda g c).After-deref in
    subst (λ (xs : List model.Record). IsAgenda c.args.state xs c.args.agenda) (sym (whole g d))
    (agenda_cleared c.args.state (map record_of c.args.records.items) c.args.agenda c.requires.agenda)

pub gather-requires : goal.gather-requires
gather-requires g c =
    record { redone = (run c.args.state (map record_of c.deref.result.now), c.in_ok-all.ensures.redone) }

-- they come to the state behind the records
comes : (g : _) (c : After-deref g)
    → run c.args.state (map record_of c.deref.result.now) ≡ run c.args.state (map record_of c.args.records.items)
comes g c = ap (run c.args.state) (whole g c) ∙ run_cleared c.args.state (map record_of c.args.records.items)

pub returns-clause-state : goal.returns-clause-state
returns-clause-state g c =
    let d = (goal.at.returns-clause-state g c).After-deref in
    c.in_ok-after.ensures.state (run c.args.state (map record_of c.args.records.items))
    (subst (λ (t : State). IsRedoneTo t c.in_ok-all.all) (comes g d) c.in_ok-all.ensures.redone)

pub returns-clause-course : goal.returns-clause-course
returns-clause-course g c =
    let d = (goal.at.returns-clause-course g c).After-deref in
    subst (λ (t : State). StartsByLast (map (λ (q : Definition). q.error) t.definitions) c.in_ok-all.course) (comes g d)
    c.in_ok-all.ensures.course
