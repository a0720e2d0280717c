use Rattle.std.proofs.Common.{◌≡◌, map, take}
use Rattle.rq_record.specs.Views.{record_of}
use Rattle.rq_standing.specs.Ends.{fates}
use Rattle.rq_standing.proofs.ends.fates_of.Given as goal

abbrev pub invariant-loop-lent : goal.invariant-loop-lent
invariant-loop-lent l = map (λ p. (p.0.0, p.1)) l.all.items
    ≡ fates l.definitions (record_of l.what) (take l.lent-index l.elements)
