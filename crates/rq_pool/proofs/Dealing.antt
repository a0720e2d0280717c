-- A seat that has taken nothing, and the lists that a room is made of.
use Rattle.std.proofs.Common.{All, drop, reverse, ◌≡◌, ℕ, suc, ◌+◌, ◌<◌, List, [], ◌∷◌, ◌++◌, Vec, length, get_or}
use Rattle.std.proofs.Common.{take, map, replicate, sum_by, Some, slice_get, vec_items, vec_len, sym, ap, ◌∙◌, arith}
use Rattle.rq_pool.proofs.Words.{Global, length-map, length-replicate, with_items_is, take_more, map-append}
use Rattle.rq_pool.proofs.Words.{reverse-append, nil_from_length, get_or-map, Share, Worker, DealRule, Deck, parts_of}
use Rattle.rq_pool.proofs.Words.{DeckId, list_in, deck_id, deck_list, owner_id, IsStocked, IsOpen, filled}
use Rattle.rq_pool.proofs.Words.{owner_count, Holds, reach_at, IsPlaceBeside}
use Rattle.std.specs.Vec.{with_items}
use Rattle.std.proofs.lemmas.List.Folds.{sum_by-replicate}
use Rattle.std.proofs.lemmas.List.Sums.{sum_by-le}
use Rattle.std.proofs.lemmas.Option.{slice_get_within, get_or_from_slice_get}
use Rattle.rq_pool.specs.declared.seat.Place.{Place}
use Rattle.rq_pool.specs.declared.seat.Place.TheVariants.{Alone, Beside}
use Rattle.rq_pool.proofs.Lists.{nothing_at, first_of_drop}

pub begun : (ids : List DeckId) (number : ℕ) (deque : (ℕ × ℕ) × Global) (v : Share) (stolens : List (List ℕ))
    (taken : List ℕ) → slice_get ids number ≡ Some (deque, v.dealt) → stolens ≡ replicate (length ids) []
    → v.parts + length ids ≡ 256 → v.taken ≡ [] → taken ≡ [] → Holds (map list_in ids) number v stolens taken
begun ids number deque v stolens taken own fresh parts none bare = let inside : number < length ids =
    slice_get_within ids number (deque, v.dealt) own in let count = length-map ids list_in in record {
      numbered = omega arith;
      dealt = get_or-map list_in ids number (deque, v.dealt) [] inside
          ∙ ap list_in (get_or_from_slice_get ids number (deque, v.dealt) (deque, v.dealt) own);
      parts = omega arith;
      same = ap length fresh ∙ length-replicate (length ids) [] ∙ sym count;
      counts = λ h. (let t = ap (sum_by h) bare in let w = ap (sum_by h) none in let s =
          ap (sum_by (sum_by h)) fresh ∙ sum_by-replicate (sum_by h) (length ids) [] in omega arith);
      within = λ h. (let w = ap (sum_by h) none in omega arith);
      least = λ h j. (let s = ap (λ l. sum_by h (get_or l j [])) fresh ∙ ap (sum_by h) (nothing_at (length ids) j) in
          omega arith);
      untouched = ap (λ l. get_or l number []) fresh ∙ nothing_at (length ids) number;
    }

-- the source of one deque more
pub one_more_source : (ids done : List DeckId) (j : ℕ) (x : DeckId) → j < length ids → done ≡ take j ids
    → x ≡ get_or ids j x → done ++ x ∷ [] ≡ take (j + 1) ids
one_more_source ids done j x inside e is =
    ap (λ l. l ++ x ∷ []) e ∙ ap (λ y. take j ids ++ y ∷ []) is ∙ sym (take_more ids j x inside)

-- the next owner is that of the next deque
pub next_owner : (ids : List DeckId) (k : ℕ) (rest : List (Worker ℕ Global Share DealRule))
    (owner : Worker ℕ Global Share DealRule) → drop k ids ≡ reverse (map owner_id (rest ++ owner ∷ []))
    → (slice_get ids k ≡ Some (owner_id owner)) × (drop (suc k) ids ≡ reverse (map owner_id rest))
next_owner ids k rest owner e = first_of_drop ids k (owner_id owner) (reverse (map owner_id rest))
    (e ∙ ap reverse (map-append owner_id rest (owner ∷ [])) ∙ reverse-append (map owner_id rest) (owner_id owner ∷ []))

-- a deck whose passes are all dealt is ready to take them back
pub opened : (n : ℕ) (deck : Deck) → IsStocked n 0 deck → IsOpen n 0 deck
opened n deck s = let bare : deck.passes.items ≡ [] =
    nil_from_length deck.passes.items (sym deck.passes.ok.0 ∙ s.count) in record {
      passes = λ k d lt. absurd (let l = ap length bare in omega arith);
      parts = ap (sum_by parts_of) bare;
      count = s.count;
      reserved = s.reserved;
      owner = λ o e. absurd (let c = ap owner_count (sym s.owner ∙ e) in omega arith);
    }

pub none_filled : (n : ℕ) (decks : List Deck) → All (IsStocked n 0) decks → sum_by filled decks ≡ 0
none_filled n decks all = let most =
    sum_by-le filled 0 decks (λ k d near. omega (arith, ap owner_count (all k d near).owner)) in omega arith

-- there are as many decks as lists
pub as_many : (decks : List Deck) (lists : Vec (Vec ℕ Global) Global) → map deck_list decks ≡ map vec_items lists.items
    → length decks ≡ vec_len lists
as_many decks lists e = sym (length-map decks deck_list) ∙ ap length e ∙ length-map lists.items vec_items
    ∙ sym lists.ok.0

-- decks that were lent as a slice are the slice, if each is still the deck that it was
pub as_lent : (decks : Vec Deck Global) (new : List Deck) → map deck_id new ≡ map deck_id decks.items
    → (with_items decks new).items ≡ new
as_lent decks new same = with_items_is decks new
    (let s = ap length same in let l = decks.ok.0 in
    omega (arith, length-map new deck_id, length-map decks.items deck_id))

-- a seat of a room reaches the deques of the room
pub reached_at : (ids : List DeckId) (place : Place) → IsPlaceBeside ids place → reach_at place ≡ ids
reached_at ids (Alone seat) none = absurd none
reached_at ids (Beside seat) is = is.sources
