use Rattle.std.proofs.Common.{◌≡◌, [], length, map, replicate, vec_len, ap, sym, subst, ◌∙◌, arith, Some, rules}
use Rattle.rq_pool.proofs.Words.{length-map, IsWhole, deck_id, IsSeatBeside, All-push, All-pop}
use Rattle.std.proofs.lemmas.Grind.{common_steps, elements}
use Rattle.rq_pool.proofs.Dealing.{next_owner}
use Rattle.rq_pool.proofs.deque_room.DequeRoom.seats_of.Goals as goal

pub loop-owner-preserved : goal.loop-owner-preserved
loop-owner-preserved c = record {
  same = c.in_ok-sources.ensures.same ∙ c.loop-owner.invariant.same;
  count = grind (arith, common_steps);
  decks = first_of (search rules, grind (arith, common_steps), grind (arith, elements));
  owners = first_of (search rules, grind (arith, common_steps, next_owner), grind (arith, elements, next_owner));
  whole = first_of (search rules, grind (arith, common_steps), grind (arith, elements));
  seats = (let before = c.loop-owner.invariant in let popped = c.in-Some.ensures.items in let rest =
      c.pop.new.self.items in let owner = c.in-Some.owner in let ids = map deck_id c.args.decks.now in
      let number : vec_len c.loop-owner.seats ≡ c.len-number.result = omega arith in
      let next = next_owner ids (vec_len c.loop-owner.seats) rest owner (rw popped at before.owners) in
      let count = length-map c.args.decks.now deck_id in let drawn = c.in_ok-sources.ensures in
      let long : length c.loop-owner.decks ≡ length ids =
      sym (length-map c.loop-owner.decks deck_id) ∙ ap length before.same in
      let whole = (All-pop (IsWhole (length c.args.decks.now)) _ rest (Some owner) popped before.whole).1 in
      rw c.push_reserved.ensures.items (All-push (IsSeatBeside ids) c.loop-owner.seats.items c.beside.result
      before.seats
      (c.beside.ensures.seat ids (rw number at next.0) (drawn.sources ∙ before.same)
      (drawn.fresh ∙ ap (λ k. replicate k []) long) (subst (λ k. IsWhole k owner) (sym count) whole)
      c.in_ok-taken.ensures.items (let s = c.requires.total in let k = c.in_ok-taken.ensures.capacity in
      omega arith))));
  fresh = first_of (search rules, grind (arith, common_steps), grind (arith, elements));
  reserved = grind (arith, common_steps);
}
