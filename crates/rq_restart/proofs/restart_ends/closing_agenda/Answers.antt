use Rattle.std.proofs.Common.{◌≡◌, ◌++◌, length, map, ap, arith, length-append}
use Rattle.std.proofs.lemmas.List.{length-map}
use Rattle.rq_model.specs.Records as model
use Rattle.rq_record.specs.Views.{record_of}
use Rattle.rq_state.specs.Views.{unit_of}
use Rattle.rq_catalog.specs.Analyses.{open_in}
use Rattle.rq_restart.proofs.restart_ends.closing_agenda.Goals as goal
use Rattle.rq_restart.proofs.restart_ends.closing_agenda.Goals.{In_ok-closed}

-- there is a unit for each that is open
as_many : (c : In_ok-closed) → length c.in_ok-closed.units.items ≡ length (open_in c.args.analysis)
as_many c = omega (arith, length-map c.in_ok-closed.units.items unit_of, ap length c.in_ok-closed.ensures.units)

pub of-requires : goal.of-requires
of-requires c =
    omega (
      arith,
      c.requires.fits,
      c.len.ensures,
      as_many (goal.at.of-requires c).In_ok-closed,
    )

pub returns-clause-agenda : goal.returns-clause-agenda
returns-clause-agenda c =
    let rs = map record_of c.args.records.now in
    let aborts = map model.Abort (open_in c.args.analysis) in
    c.in_ok-agenda.ensures.agenda (rs ++ aborts)
    (omega (
      arith,
      length-append rs aborts,
      length-map c.args.records.now record_of,
      length-map (open_in c.args.analysis) model.Abort,
      c.len.ensures,
      as_many (goal.at.returns-clause-agenda c).In_ok-closed,
    ))
    c.requires.lawful c.in_ok-closed.ensures.analysis
