use Rattle.std.proofs.Common.{◌∙◌, arith}
use Rattle.rq_look.proofs.Puts.{both_put}
use Rattle.rq_look.proofs.stories.tell_front.Goals as goal

pub loop-placed-preserved : goal.loop-placed-preserved
loop-placed-preserved g c =
    let held = g.W.Output.contents in
    let inv = c.loop-placed.invariant in
    let told = c.in_ok-count.ensures in (
      both_put (held c.args.output.now) (held c.loop-placed.output) (held c.tell_record.new.output) inv.0
          (told.only.0, told.only.1),
      λ t e.
          let before = inv.1 (omega (arith, t, c.saturating_add-told.ensures)) e in
          let here = told.nothing (omega (arith, t, c.saturating_add-told.ensures)) before.1 in
          (here.0 ∙ before.0, here.1),
      told.faults ∙ inv.2,
    )
