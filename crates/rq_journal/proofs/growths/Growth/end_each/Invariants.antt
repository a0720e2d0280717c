use Rattle.std.proofs.Common.{◌≡◌, take, map}
use Rattle.rq_model.specs.Machine.{run}
use Rattle.rq_model.specs.Records as model
use Rattle.rq_state.specs.Views.{unit_of}
use Rattle.rq_journal.specs.Growths.{GrowsBy}
use Rattle.rq_journal.proofs.growths.Growth.end_each.Given as goal

-- the units so far are ended
abbrev pub invariant-loop-unit : goal.invariant-loop-unit
invariant-loop-unit l =
    GrowsBy l.fn.self l.self (map model.Abort (map unit_of (take l.unit-index l.units)))
    × (l.machine ≡ run l.fn.machine (map model.Abort (map unit_of (take l.unit-index l.units))))
    × (l.self.end ≡ l.fn.self.end)
