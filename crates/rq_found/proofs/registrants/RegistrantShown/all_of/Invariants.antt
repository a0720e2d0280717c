use Rattle.std.proofs.Common.{◌≡◌, ◌++◌, map, drop}
use Rattle.rq_found.specs.Records.{registrant_entry, registrant_told}
use Rattle.rq_found.proofs.registrants.RegistrantShown.all_of.Given as goal

-- those found, and those that are left, are all
abbrev pub invariant-loop-r : goal.invariant-loop-r
invariant-loop-r l = map registrant_told l.found.items ++ map registrant_entry (drop l.r-index l.r-items)
    ≡ map registrant_entry l.r-items
