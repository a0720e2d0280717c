use Rattle.rq_live.specs.Managers.{IsInOrder, stand_of}
use Rattle.rqdrive.proofs.times.all_through.Given as goal

abbrev pub invariant-loop : goal.invariant-loop
invariant-loop g l =
    IsInOrder (stand_of g.D.Device.written g.D.Device.synced g.D.Device.doubted g.D.Device.failed l.m)
