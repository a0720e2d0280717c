use Rattle.std.proofs.Common.{◌≡◌, [], string_bytes}
use Rattle.rq_look.specs.Looks.{AppendsSome}
use Rattle.rq_look.proofs.stories.tell_front.Given as goal

-- what is written so far; nothing is, nor waits, where nothing was told; and no write failed
abbrev pub invariant-loop-placed : goal.invariant-loop-placed
invariant-loop-placed g l =
    AppendsSome (g.W.Output.contents l.fn.output) (g.W.Output.contents l.output)
    × (l.told ≡ 0 → string_bytes l.fn.text ≡ []
    → (g.W.Output.contents l.output ≡ g.W.Output.contents l.fn.output) × (string_bytes l.text ≡ []))
    × (g.W.Output.faults l.output ≡ g.W.Output.faults l.fn.output)
