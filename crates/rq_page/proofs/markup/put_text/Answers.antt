use Rattle.std.proofs.Common.{rules}
use Rattle.rq_page.proofs.Texts.{both, nothing}
use Rattle.rq_page.proofs.markup.put_text.Goals as goal

pub loop-c-init : goal.loop-c-init
loop-c-init c = nothing _

pub loop-c-preserved : goal.loop-c-preserved
loop-c-preserved c = both _ _ _ c.loop-c.invariant (search rules)
