use Rattle.rq_live.specs.Managers.{IsInOrder, stand_of}
use Rattle.rqdrive.proofs.drives.drive.Given as goal

abbrev pub invariant-loop-number : goal.invariant-loop-number
invariant-loop-number g l =
    IsInOrder (stand_of g.D.Device.written g.D.Device.synced g.D.Device.doubted g.D.Device.failed l.m)
