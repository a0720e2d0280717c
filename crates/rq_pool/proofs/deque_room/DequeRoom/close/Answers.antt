use Rattle.std.proofs.Common.{◌≡◌, ℕ, ◌+◌, ◌==◌, All, map, sum_by, cond, ap, sym, subst, ◌∙◌, arith}
use Rattle.rq_pool.proofs.Words.{IsComplete, deck_id, deck_list, list_in, taken_weight, dealt_weight, map-map}
use Rattle.rq_pool.proofs.Lists.{sum_by-map}
use Rattle.rq_pool.proofs.Dealing.{as_lent}
use Rattle.rq_pool.proofs.deque_room.DequeRoom.close.Goals as goal

pub emptied-requires-clause-all : goal.emptied-requires-clause-all
emptied-requires-clause-all c = let same = c.gathered.ensures.same ∙ ap (map deck_id) c.as_mut_slice.ensures.value in
    subst (All IsComplete) (sym (as_lent c.into_decks-decks.result c.gathered.new.decks same)) c.gathered.ensures.decks

pub returns-clause-ledger : goal.returns-clause-ledger
returns-clause-ledger c = λ x. let h : ℕ → ℕ = λ y. cond (y == x) 1 0 in let new = c.gathered.new.decks in
    let same = c.gathered.ensures.same ∙ ap (map deck_id) c.as_mut_slice.ensures.value in
    let sums = subst (λ ds. sum_by (taken_weight h) ds + sum_by h c.emptied.new.left.items ≡ sum_by (dealt_weight h) ds
    + sum_by h c.args.self.left.items) (as_lent c.into_decks-decks.result new same) (c.emptied.ensures.sums h) in
    let none = ap (sum_by h) c.args.self.reserved.2 in let weight = c.gathered.ensures.weight h in
    let taken = ap (sum_by (sum_by h)) c.gathered.ensures.takens in
    let dealt = ap (λ ids. sum_by (sum_by h) (map list_in ids)) (same ∙ c.into_decks-decks.ensures.same) in
    omega (arith, ap (sum_by (sum_by h)) (map-map list_in deck_id new), sum_by-map (sum_by h) deck_list new)
