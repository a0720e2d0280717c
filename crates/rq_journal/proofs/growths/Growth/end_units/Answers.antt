use Rattle.std.proofs.Common.{◌/◌, ◌<◌, length, ap, arith}
use Rattle.std.proofs.lemmas.List.{length-map}
use Rattle.std.proofs.lemmas.Bool.Decides.{nat_tests}
use Rattle.rq_state.specs.Views.{unit_of}
use Rattle.rq_journal.proofs.Marking.{ends_long, no_room}
use Rattle.rq_journal.proofs.growths.Growth.end_units.Goals as goal

pub returns-then-count-saturating_sub-2-clause-refused : goal.returns-then-count-saturating_sub-2-clause-refused
returns-then-count-saturating_sub-2-clause-refused c at rs xs h =
    let a = c.args.self.now in
    let s = c.args.state.now in
    let units = c.units-units.result.now in
    let left = c.saturating_sub-2.result in
    let long = c.if-count-saturating_sub-2.true in
    let many : left / 45 < length units = grind (arith, nat_tests, long) in
    let full = no_room a.appender.framer.len (length units) left (omega (arith, c.len.ensures, c.saturating_sub-2.ensures))
    many in
    omega (arith, full, ends_long at rs xs a s.units h, ap length c.units-units.ensures, length-map units unit_of)
