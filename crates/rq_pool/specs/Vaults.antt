-- What a room keeps while its passes and owners are out.
use Rattle.std.specs.Prelude.{◌≡◌, List, [], ◌∷◌, All, map, sum_by, vec_len, Vec}
use Rattle.std.specs.Global.{Global}
use mathlib.Core.Option.{some}
use Rattle.atomic_table.specs.Table.{State}
use Rattle.rq_pool.specs.declared.deck.Deck.{Deck}
use Rattle.rq_pool.specs.declared.seat.Seat.{Seat}
use Rattle.rq_pool.specs.declared.seat.Place.{Place}
use Rattle.rq_pool.specs.declared.seat.Place.TheVariants.{Alone, Beside}
use Rattle.rq_pool.specs.Decks.{DeckId, deck_id, IsOpen, filled}
use Rattle.rq_pool.specs.Holdings.{source_id}

-- the deques that a seat takes from, alone or beside others
abbrev pub reach_at : Place → List DeckId
reach_at (Alone seat) = []
reach_at (Beside seat) = map source_id seat.sources.items

-- the deques that a seat takes from: all of its room
abbrev pub reach : Seat → List DeckId
reach seat = reach_at seat.place

-- the decks of these deques, to which nothing has come back yet
pub record Keeps (ids : List DeckId) (decks : Vec Deck Global) : Type 0 where
  pub same : map deck_id decks.items ≡ ids
  pub none_back : All (IsOpen (vec_len decks) 0) decks.items
  pub ownerless : sum_by filled decks.items ≡ 0

-- the slot has the decks of the deques that the seat reaches
pub record Kept (seat : Seat) (s : State (Vec Deck Global) (Unit {0})) : Type 0 where
  pub decks : Vec Deck Global
  pub home : s.homes ≡ some decks ∷ []
  pub keeps : Keeps (reach seat) decks
