use Rattle.std.proofs.Common.{◌≡◌, All, length, map, vec_len, vec_items, ap, sym, subst, ◌∙◌, arith}
use Rattle.rq_pool.proofs.Words.{map-map, IsStocked, deck_id, list_in, IsSeatBeside}
use Rattle.std.proofs.lemmas.List.Sums.{get_or-le-sum_by}
use Rattle.rq_pool.proofs.Lists.{sum_by-map}
use Rattle.rq_pool.proofs.Dealing.{as_many, as_lent}
use Rattle.rq_pool.proofs.deque_room.DequeRoom.dealt.Goals as goal

pub decks_of-requires-clause-short : goal.decks_of-requires-clause-short
decks_of-requires-clause-short c =
    λ k d lt. (let all = sum_by-map length vec_items c.args.lists.items in let s = c.requires.short in
    omega (arith, get_or-le-sum_by (λ v. length v.items) c.args.lists.items k d lt))

pub seats_of-requires-clause-decks : goal.seats_of-requires-clause-decks
seats_of-requires-clause-decks c = let made = c.in_ok-decks.ensures in let lent = c.as_mut_slice in let n =
    vec_len c.args.lists in
    let many : n ≡ length lent.result.now =
    sym (ap length lent.ensures.value ∙ as_many c.in_ok-decks.decks.items c.args.lists made.lists) in
    subst (λ k. All (IsStocked k k) lent.result.now) many
    (subst (All (IsStocked n n)) (sym lent.ensures.value) made.decks)

pub returns-clause-lists : goal.returns-clause-lists
returns-clause-lists c = let decks = c.in_ok-decks.decks in let same =
    c.in_ok-seats.ensures.same ∙ ap (map deck_id) c.as_mut_slice.ensures.value in
    ap (λ ds. map list_in (map deck_id ds)) (as_lent decks c.seats_of.new.decks same) ∙ ap (map list_in) same
    ∙ map-map list_in deck_id decks.items ∙ c.in_ok-decks.ensures.lists

pub returns-clause-decks : goal.returns-clause-decks
returns-clause-decks c = let decks = c.in_ok-decks.decks in let new = c.seats_of.new.decks in let n =
    vec_len c.args.lists in let same = c.in_ok-seats.ensures.same ∙ ap (map deck_id) c.as_mut_slice.ensures.value in
    let count = as_many decks.items c.args.lists c.in_ok-decks.ensures.lists in let many =
    ap length c.as_mut_slice.ensures.value ∙ count in (
      decks.ok.0 ∙ count,
      subst (All (IsStocked n 0)) (sym (as_lent decks new same))
          (subst (λ k. All (IsStocked k 0) new) many c.in_ok-seats.ensures.decks),
    )

pub returns-clause-seats : goal.returns-clause-seats
returns-clause-seats c = let decks = c.in_ok-decks.decks in let same = c.in_ok-seats.ensures.same in let made =
    c.in_ok-seats.ensures.seats in
    let many = ap length c.as_mut_slice.ensures.value ∙ as_many decks.items c.args.lists c.in_ok-decks.ensures.lists in
    let back = ap (map deck_id)
    (as_lent decks c.seats_of.new.decks (same ∙ ap (map deck_id) c.as_mut_slice.ensures.value)) ∙ same in
    (made.0 ∙ many, subst (λ ids. All (IsSeatBeside ids) c.in_ok-seats.seats.items) (sym back) made.1, made.2)
