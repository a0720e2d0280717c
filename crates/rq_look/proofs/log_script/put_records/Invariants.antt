use Rattle.std.proofs.Common.{◌≡◌, string_bytes}
use Rattle.rq_look.proofs.Scripts.{IsUnderWay}
use Rattle.rq_look.proofs.log_script.put_records.Given as goal

abbrev pub invariant-loop-placed : goal.invariant-loop-placed
invariant-loop-placed g l =
    IsUnderWay l.log.at l.log.bytes.now l.placed-iterator.rest.now l.placed-iterator.number (string_bytes l.text)
    (g.W.Output.contents l.fn.output) (g.W.Output.contents l.output)
    × (g.W.Output.faults l.output ≡ g.W.Output.faults l.fn.output)
