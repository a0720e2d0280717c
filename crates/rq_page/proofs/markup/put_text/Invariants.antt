use Rattle.std.proofs.Common.{string_bytes}
use Rattle.rq_page.specs.Markup.{AppendsText}
use Rattle.rq_page.proofs.markup.put_text.Given as goal

abbrev pub invariant-loop-c : goal.invariant-loop-c
invariant-loop-c l = AppendsText (string_bytes l.fn.text) (string_bytes l.text)
