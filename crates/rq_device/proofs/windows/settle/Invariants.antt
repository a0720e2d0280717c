use Rattle.std.proofs.Common.{◌≡◌, ℕ, List, ◌++◌, length, false}
use Rattle.std.specs.Io.KnownBytes.{append_known}
use Rattle.rq_device.specs.Devices.{IsAllSynced, KeepsSynced}
use Rattle.rq_device.proofs.windows.settle.Given as goal

-- what comes before the rest is written and synced, and the device has not failed
abbrev pub invariant-loop-rest : goal.invariant-loop-rest
invariant-loop-rest g l =
    let written = g.D.Device.written in
    let synced = g.D.Device.synced in
    (g.D.Device.failed l.device ≡ false) × (front : List ℕ) × (l.bytes ≡ front ++ l.rest)
    × (written l.device ≡ append_known (written l.fn.device) front)
    × KeepsSynced (written l.fn.device) (synced l.fn.device) (written l.device) (synced l.device)
    × IsAllSynced (written l.device) (synced l.device) × (g.D.Device.doubted l.device ≡ g.D.Device.doubted l.fn.device)

abbrev pub decreases-loop-rest : goal.decreases-loop-rest
decreases-loop-rest g l = length l.rest
