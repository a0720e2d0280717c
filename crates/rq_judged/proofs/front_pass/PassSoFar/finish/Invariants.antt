use Rattle.std.proofs.Common.{◌≤◌, ◌-◌, length}
use Rattle.rq_model.specs.Records.{Version}
use Rattle.rq_judged.specs.Passes.{HasPassedSome}
use Rattle.rq_judged.proofs.front_pass.PassSoFar.finish.Given as goal

abbrev pub invariant-windows : goal.invariant-windows
invariant-windows g l =
    (l.self.offset ≤ l.limit)
    × (l.limit ≤ length l.bytes)
    × ((version : Version) → HasPassedSome version l.bytes l.fn.self → HasPassedSome version l.bytes l.self)

abbrev pub decreases-windows : goal.decreases-windows
decreases-windows g l = length l.bytes - l.limit
