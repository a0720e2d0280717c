-- What the seats have taken, and what is left.
use Rattle.std.proofs.Common.{◌≡◌, ℕ, ◌≤◌, ◌<◌, List, [], ◌∷◌, All, length, get_or, take, drop}
use Rattle.std.proofs.Common.{cond, ◌==◌, sum_by, Option, Some, None, sym, refl, ap, ◌∙◌, subst, arith}
use Rattle.std.specs.List.{remove}
use Rattle.std.proofs.lemmas.List.Edits.{length-remove}
use Rattle.std.proofs.lemmas.List.Sums.{sum_by-le, sum_by-remove, get_or-le-sum_by}
use Rattle.rq_pool.proofs.Words.{Global, nil_from_length, sum_by-take-drop, Worker, IsPassOf}
use Rattle.rq_pool.proofs.Words.{times, Ledger, Share, DealRule, Deck, weight_of, IsOpen, IsComplete, filled}
use Rattle.rq_pool.proofs.Words.{owner_count, owner_weight, taken_weight}

-- one seat took the beginning of the list
pub ledger_alone : (list taken : List ℕ) (takens : List (List ℕ)) → taken ≡ take (length taken) list
    → takens ≡ taken ∷ [] → Ledger (list ∷ []) takens (drop (length taken) list)
ledger_alone list taken takens front one x = let h : ℕ → ℕ = λ y. cond (y == x) 1 0 in let t =
    ap (sum_by (times x)) one in let f = ap (times x) front in omega (arith, sum_by-take-drop h list (length taken))

no_owner : (h : ℕ → ℕ) (o : Option (Worker ℕ Global Share DealRule)) → owner_count o ≡ 0 → owner_weight h o ≡ 0
no_owner h None e = refl
no_owner h (Some owner) e = absurd (omega arith)

-- before the first seat, nothing has come back
pub nothing_taken : (h : ℕ → ℕ) (decks : List Deck) → All (IsOpen (length decks) 0) decks → sum_by filled decks ≡ 0
    → sum_by (taken_weight h) decks ≡ 0
nothing_taken h decks all none = let most =
    sum_by-le (taken_weight h) 0 decks (λ k d near. let deck = get_or decks k d in let filled_one =
    get_or-le-sum_by filled decks k d near in let empty = nil_from_length deck.passes.items
    (sym deck.passes.ok.0 ∙ (all k d near).count) in
    omega (arith, no_owner h deck.owner (omega arith), ap (sum_by (weight_of h)) empty)) in omega arith

count_most : (o : Option (Worker ℕ Global Share DealRule)) → owner_count o ≤ 1
count_most None = omega arith
count_most (Some owner) = omega arith

-- as many owners as decks came back: each came back
all_filled : (decks : List Deck) → sum_by filled decks ≡ length decks → (k : ℕ) (d : Deck) → k < length decks
    → filled (get_or decks k d) ≡ 1
all_filled decks all k d near = let others = sum_by-le filled 1 (remove decks k)
    (λ j e _. count_most (get_or (remove decks k) j e).owner) in let here = count_most (get_or decks k d).owner in
    omega (arith, sum_by-remove filled decks k d near, length-remove decks k near)

owner_there : (o : Option (Worker ℕ Global Share DealRule)) → owner_count o ≡ 1
    → (w : Worker ℕ Global Share DealRule) × (o ≡ Some w)
owner_there None e = absurd (omega arith)
owner_there (Some w) e = (w, refl)

-- with its owner and the passes of all seats, a deck is complete
complete : (n : ℕ) (deck : Deck) → n ≤ 64 → IsOpen n n deck → filled deck ≡ 1 → IsComplete deck
complete n deck few back one = let there = owner_there deck.owner one in let own = back.owner there.0 there.1 in
    let all = own.3 in record {
      owner = there.0;
      here = there.1;
      flavor = own.1;
      some_part = omega arith;
      dealt = own.2;
      passes = subst (λ id. All (IsPassOf id) deck.passes.items) (sym own.0) back.passes;
      parts = (let p = back.parts in omega arith);
    }

pub all_complete : (n : ℕ) (decks : List Deck) → n ≤ 64 → All (IsOpen n n) decks → sum_by filled decks ≡ length decks
    → All IsComplete decks
all_complete n decks few back all k d lt = complete n (get_or decks k d) few (back k d lt) (all_filled decks all k d lt)
