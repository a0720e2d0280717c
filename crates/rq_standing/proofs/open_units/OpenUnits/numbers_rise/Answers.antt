use Rattle.rq_standing.proofs.open_units.OpenUnits.numbers_rise.Goals as goal

pub returns : goal.returns
returns c = c.len.ensures.ordered
