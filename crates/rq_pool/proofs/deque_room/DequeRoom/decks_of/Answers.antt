use Rattle.std.proofs.Common.{◌≡◌, All, ◌++◌, map, reverse, vec_len, vec_items, ap, sym}
use Rattle.std.proofs.Common.{subst, ◌∙◌, arith, append-nil, rules}
use Rattle.rq_pool.proofs.Words.{reverse-reverse, nil_from_length, IsStocked, IsWhole, deck_id, deck_list, All-push}
use Rattle.std.proofs.lemmas.Grind.{common_steps, elements}
use Rattle.rq_pool.proofs.Lists.{map-reverse}
use Rattle.rq_pool.proofs.deque_room.DequeRoom.decks_of.Goals as goal

pub loop-list-preserved : goal.loop-list-preserved
loop-list-preserved c = let n = c.len-n.result in record {
  count = grind (arith, common_steps);
  as_many = grind (arith, common_steps);
  reserved = grind (arith, common_steps);
  short = first_of (search rules, grind (arith, common_steps), grind (arith, elements));
  lists = grind (arith, common_steps);
  stocked = rw c.push_reserved.ensures.items
      (All-push (IsStocked n n) _ _ c.loop-list.invariant.stocked c.in_ok-deck.ensures.deck.0);
  owners = grind (arith, common_steps);
  whole = first_of (search rules, grind (arith, common_steps), grind (arith, elements));
}

pub returns-clause-lists : goal.returns-clause-lists
returns-clause-lists c = let inv = c.loop-list.invariant in let before = c.loop-list.decks.items in let lists =
    map vec_items c.args.lists.items in
    let all : map deck_list before ≡ reverse lists =
    sym (append-nil (map deck_list before))
    ∙ sym (ap (λ l. map deck_list before ++ reverse (map vec_items l))
    (nil_from_length c.loop-list.lists.items (omega (arith, c.in_default.ensures.cases)))) ∙ inv.lists in
    ap (map deck_list) c.reverse.ensures.items ∙ map-reverse deck_list before ∙ ap reverse all ∙ reverse-reverse lists

pub returns-clause-owners : goal.returns-clause-owners
returns-clause-owners c = let inv = c.loop-list.invariant in let count : c.len-n.result ≡ vec_len c.args.lists =
    omega arith in (
      ap reverse inv.owners ∙ sym (map-reverse deck_id c.loop-list.decks.items)
          ∙ ap (map deck_id) (sym c.reverse.ensures.items),
      subst (λ k. All (IsWhole k) c.loop-list.owners.items) count inv.whole,
    )
