use Rattle.std.proofs.Common.{◌≡◌}
use Rattle.std.specs.Io.KnownBytes.{Keeps}
use Rattle.rq_report.proofs.stream.OverInput.read.Given as goal

-- an interrupted read has taken nothing, and is no fault
abbrev pub invariant-loop : goal.invariant-loop
invariant-loop g l = Keeps (g.R.Read.remaining l.fn.self.inner) (g.R.Read.remaining l.self.inner)
    × (l.self.faults ≡ l.fn.self.faults)
