use Rattle.std.proofs.Common.{◌≡◌}
use Rattle.std.specs.Io.KnownBytes.{Keeps}
use Rattle.rq_report.proofs.stream.OverOutput.write.Given as goal

-- an interrupted write has written nothing, and is no fault
abbrev pub invariant-loop : goal.invariant-loop
invariant-loop g l = Keeps (g.W.Write.contents l.fn.self.inner) (g.W.Write.contents l.self.inner)
    × (l.self.faults ≡ l.fn.self.faults)
