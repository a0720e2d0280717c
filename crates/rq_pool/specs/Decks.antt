-- A deque of the room, and what has come back of it.
use Rattle.std.specs.Prelude.{◌≡◌, ℕ, ◌+◌, ◌<◌, ◌≤◌, List, [], All, length, sum_by, vec_len}
use Rattle.std.specs.Prelude.{vec_capacity, Option, Some, None}
use Rattle.std.specs.Global.{Global}
use Rattle.crossbeam_deque.specs.declared.handles.Worker.{Worker}
use Rattle.crossbeam_deque.specs.Handles.{view, IsPassOf, worker_deque, worker_flavor, worker_view, stealer_deque}
use Rattle.rq_pool.specs.declared.deque.Share.{Share}
use Rattle.rq_pool.specs.declared.deque.DealRule.{DealRule}
use Rattle.rq_pool.specs.declared.deck.Deck.{Deck}
use Rattle.rq_pool.specs.Passes.{share, parts_of, weight_of}

-- which deque, and the list that was dealt to it
abbrev pub DeckId : Type 0
DeckId = ((ℕ × ℕ) × Global) × List ℕ

-- the deque of a deck, and its list
abbrev pub deck_id : Deck → DeckId
deck_id deck = (stealer_deque deck.thief, deck.list.items)

-- the same, as the owner of the deque knows it
abbrev pub owner_id : Worker ℕ Global Share DealRule → DeckId
owner_id owner = (worker_deque owner, (worker_view owner).dealt)

-- the list that was dealt
abbrev pub list_in : DeckId → List ℕ
list_in id = id.1

-- of n seats, m are still to get their pass, which has one part and took nothing yet
pub record IsStocked (n m : ℕ) (deck : Deck) : Type 0 where
  pub passes : All (λ pass. IsPassOf (stealer_deque deck.thief) pass
      × (view pass ≡ share 1 deck.list.items [])) deck.passes.items
  pub count : vec_len deck.passes ≡ m
  pub reserved : n ≤ vec_capacity deck.passes
  pub owner : deck.owner ≡ None

-- the owner of the deck's deque; n seats have one part each
abbrev pub IsOwnerOf : ℕ → Deck → Worker ℕ Global Share DealRule → Type 0
IsOwnerOf n deck o = (worker_deque o ≡ stealer_deque deck.thief) × (worker_flavor o ≡ 0)
    × ((worker_view o).dealt ≡ deck.list.items) × ((worker_view o).parts + n ≡ 256)

-- an owner that a seat of n does not have yet, and all that its deque was dealt
abbrev pub IsWhole : ℕ → Worker ℕ Global Share DealRule → Type 0
IsWhole n owner = (worker_flavor owner ≡ 0)
    × ((worker_view owner).parts + n ≡ 256) × ((worker_view owner).taken ≡ [])

-- of n seats, m have handed in their pass
pub record IsOpen (n m : ℕ) (deck : Deck) : Type 0 where
  pub passes : All (IsPassOf (stealer_deque deck.thief)) deck.passes.items
  pub parts : sum_by parts_of deck.passes.items ≡ m
  pub count : vec_len deck.passes ≡ m
  pub reserved : n ≤ vec_capacity deck.passes
  pub owner : (o : Worker ℕ Global Share DealRule) → deck.owner ≡ Some o → IsOwnerOf n deck o

-- the owner and all passes came back
pub record IsComplete (deck : Deck) : Type 0 where
  pub owner : Worker ℕ Global Share DealRule
  pub here : deck.owner ≡ Some owner
  pub flavor : worker_flavor owner ≡ 0
  pub some_part : 0 < (worker_view owner).parts
  pub dealt : (worker_view owner).dealt ≡ deck.list.items
  pub passes : All (IsPassOf (worker_deque owner)) deck.passes.items
  pub parts : (worker_view owner).parts + sum_by parts_of deck.passes.items ≡ 256

-- the weight of what the owner took, if it came back
abbrev pub owner_weight : (ℕ → ℕ) → Option (Worker ℕ Global Share DealRule) → ℕ
owner_weight h None = 0
owner_weight h (Some owner) = sum_by h (worker_view owner).taken

-- 1 if the owner came back
abbrev pub owner_count : Option (Worker ℕ Global Share DealRule) → ℕ
owner_count None = 0
owner_count (Some owner) = 1

-- 1 for a deck whose owner came back
abbrev pub filled : Deck → ℕ
filled deck = owner_count deck.owner

-- the weight of what the owner and the passes took that came back
abbrev pub taken_weight : (ℕ → ℕ) → Deck → ℕ
taken_weight h deck = owner_weight h deck.owner + sum_by (weight_of h) deck.passes.items

-- the list that was dealt to the deck's deque
abbrev pub deck_list : Deck → List ℕ
deck_list deck = deck.list.items

-- its weight
abbrev pub dealt_weight : (ℕ → ℕ) → Deck → ℕ
dealt_weight h deck = sum_by h deck.list.items

-- its length
abbrev pub dealt_length : Deck → ℕ
dealt_length deck = length deck.list.items
