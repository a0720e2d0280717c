use Rattle.std.proofs.Common.{rules, arith, ap, ◌∙◌, length}
use Rattle.std.proofs.lemmas.Grind.{common_steps, elements}
use Rattle.rq_pool.proofs.Countdowns.Words.{length_push}
use Rattle.rq_pool.proofs.Countdowns.Joins.{splits}
use Rattle.rq_pool.proofs.countdown.deal.push_seats.Goals as goal

pub split_seat-other-requires : goal.split_seat-other-requires
split_seat-other-requires g c = let i = c.loop-room.invariant in let long =
    ap length c.in-Some-pop.ensures.items ∙ length_push c.pop-in-loop-room.new.self.items c.in-Some-pop.room in (
      i.0,
      search rules,
      splits g.T.Fits.fits c.args.board.now.key _ _
          (let p = ap (λ m. m.0.parts) i.3 in omega (arith, long)),
    )

pub invariant_of-push_reserved : goal.invariant_of-push_reserved
invariant_of-push_reserved g c = record {
  told = first_of (search rules, grind (arith, common_steps), grind (arith, elements));
  gave_back = first_of (search rules, grind (arith, common_steps), grind (arith, elements));
  rests = first_of (search rules, grind (arith, common_steps), grind (arith, elements));
  has_room = first_of (search rules, grind (arith, common_steps), grind (arith, elements));
  was_last = first_of (search rules, grind (arith, common_steps), grind (arith, elements));
}

pub loop-room-preserved : goal.loop-room-preserved
loop-room-preserved g c = (
  c.split_seat-other.ensures.0 ∙ c.loop-room.invariant.0,
  first_of (search rules, grind (arith, common_steps), grind (arith, elements)),
  c.loop-room.invariant.2,
  first_of (search rules, grind (arith, common_steps), grind (arith, elements)),
  grind (arith, common_steps),
  grind (arith, common_steps),
  first_of (search rules, grind (arith, common_steps), grind (arith, elements)),
)
