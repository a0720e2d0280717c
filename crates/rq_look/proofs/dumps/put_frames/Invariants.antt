use Rattle.std.proofs.Common.{◌≡◌, drop, string_bytes}
use Rattle.rq_look.proofs.Behind.{IsUnderWay}
use Rattle.rq_look.proofs.dumps.put_frames.Given as goal

-- some lines are put so far, and no write failed
abbrev pub invariant-loop-span : goal.invariant-loop-span
invariant-loop-span g l =
    IsUnderWay l.bytes l.wanted l.fn.most l.spans l.most (drop l.span-index l.spans)
    (string_bytes l.fn.text) (string_bytes l.text) (g.W.Output.contents l.fn.output) (g.W.Output.contents l.output)
    × (g.W.Output.faults l.output ≡ g.W.Output.faults l.fn.output)
