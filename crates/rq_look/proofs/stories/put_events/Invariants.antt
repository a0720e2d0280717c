use Rattle.std.proofs.Common.{◌≡◌, string_bytes}
use Rattle.rq_look.proofs.stories.put_events.Given as goal

-- nothing is put where nothing is counted
abbrev pub invariant-loop-event : goal.invariant-loop-event
invariant-loop-event l = l.count ≡ 0 → string_bytes l.text ≡ string_bytes l.fn.text
