use Rattle.std.proofs.Common.{arith}
use Rattle.rq_record.specs.Views.{record_of, version_of}
use Rattle.std.proofs.Common.{map}
use Rattle.std.proofs.lemmas.List.{length-map}
use Rattle.rq_catalog.proofs.Fronts.{analysis_is_wider, lawful_in_two}
use Rattle.rq_restart.proofs.restart_ends.finish.Goals as goal

pub closed_front-requires-clause-lawful : goal.closed_front-requires-clause-lawful
closed_front-requires-clause-lawful g c κs within =
    lawful_in_two c.versions.ensures.two (version_of c.args.from.version) c.args.from.state
    (map record_of c.args.from.front.records.items) c.requires.front.2.front.longest.begins.lawful

pub closed_front-requires-clause-fits : goal.closed_front-requires-clause-fits
closed_front-requires-clause-fits g c =
    let is = c.requires.front.2 in
    omega (
      arith,
      is.next,
      is.units,
      is.short,
      is.front.few,
      is.front.within,
      length-map c.args.from.front.records.items record_of,
    )

pub closed_front-requires-clause-within : goal.closed_front-requires-clause-within
closed_front-requires-clause-within g c = omega (arith, c.requires.front.2.front.within, c.requires.front.3)

pub closed_front-requires-clause-analysed : goal.closed_front-requires-clause-analysed
closed_front-requires-clause-analysed g c κs within =
    analysis_is_wider c.versions.ensures.two (version_of c.args.from.version) c.args.from.state
    (map record_of c.args.from.front.records.items) c.args.from.front.analysis
    c.requires.front.2.front.longest.begins.lawful c.requires.front.2.analysis
