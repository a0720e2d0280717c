use Rattle.std.proofs.Common.{arith, ap, sym, ◌∙◌, ◌+◌}
use Rattle.rq_pool.proofs.Countdowns.Words.{common_steps, get_elem?, slots_items}
use Rattle.rq_pool.proofs.Countdowns.Endings.{next_home, one_more}
use Rattle.rq_pool.proofs.countdown.home.empty.Goals as goal

pub loop-i-preserved : goal.loop-i-preserved
loop-i-preserved g c = let i = c.loop-i.i in let inv = c.loop-i.invariant in let at =
    ap (λ xs. get_elem? xs i) (sym inv.3) ∙ c.take.ensures.value in let took = c.take.ensures.others in (
      grind (arith, common_steps),
      grind (arith, common_steps),
      took.2 ∙ inv.2,
      took.0 ∙ inv.3,
      next_home (slots_items c.args.closed.slots) i (i + 1) c.take.result c.loop-i.home.items c.keep.new.home.items
          (omega arith) at inv.4 c.keep.ensures.0,
      one_more c.loop-i.home.items c.keep.new.home.items c.take.result i inv.5 c.keep.ensures.0,
      c.keep.ensures.1 ∙ inv.6,
    )
