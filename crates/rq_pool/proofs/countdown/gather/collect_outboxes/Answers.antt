use Rattle.std.proofs.Common.{rules, arith, ap₂, sym, ◌+◌, ◌∙◌, ◌∷◌, ◌++◌, []}
use Rattle.rq_pool.proofs.Countdowns.Words.{outboxes_in}
use Rattle.rq_pool.proofs.Countdowns.Gathers.{after_one}
use Rattle.rq_pool.proofs.Countdowns.Views.{one_slot}
use Rattle.rq_pool.proofs.countdown.gather.collect_outboxes.Goals as goal

pub take_one-outbox-requires : goal.take_one-outbox-requires
take_one-outbox-requires g c = let i = c.loop-i.i in let n =
    after_one (outboxes_in c.args.seat.now.me.1) i (i + 1) (omega arith)
    (omega (arith, c.requires.slots.0)) c.loop-i.seat.me.1 c.loop-i.invariant.3 in
    (search rules, (n.0, n.1))

pub loop-i-preserved : goal.loop-i-preserved
loop-i-preserved g c = let i = c.loop-i.i in let n =
    after_one (outboxes_in c.args.seat.now.me.1) i (i + 1) (omega arith)
    (omega (arith, c.requires.slots.0)) c.loop-i.seat.me.1 c.loop-i.invariant.3 in
    let took = c.take_one-outbox.ensures in let same = (one_slot i i _ _ _ _ (sym took.slot.0 ∙ n.1)).1 in (
      search rules,
      search rules,
      search rules,
      took.slot.1 ∙ n.2,
      c.push_reserved.ensures.items ∙ ap₂ (λ l x. l ++ x ∷ []) c.loop-i.invariant.4 same ∙ sym n.3,
      search rules,
    )
