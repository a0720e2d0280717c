use Rattle.std.proofs.Common.{◌≡◌, string_bytes}
use Rattle.rq_look.proofs.Dumped.{IsUnderWay}
use Rattle.rq_look.proofs.dumps.put_records.Given as goal

abbrev pub invariant-loop-placed : goal.invariant-loop-placed
invariant-loop-placed g l =
    IsUnderWay l.log.at l.log.bytes.now l.wanted l.left l.placed-iterator.rest.now l.offset
    l.placed-iterator.number l.queues (string_bytes l.fn.text) (string_bytes l.text)
    (g.W.Output.contents l.fn.output) (g.W.Output.contents l.output)
    × (g.W.Output.faults l.output ≡ g.W.Output.faults l.fn.output)
