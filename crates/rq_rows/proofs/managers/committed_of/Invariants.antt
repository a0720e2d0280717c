use Rattle.rq_live.specs.Managers.{IsInOrder, stand_of}
use Rattle.rq_rows.proofs.managers.committed_of.Given as goal

abbrev pub invariant-loop-unit : goal.invariant-loop-unit
invariant-loop-unit g l =
    IsInOrder (stand_of g.D.Device.written g.D.Device.synced g.D.Device.doubted g.D.Device.failed l.m)
