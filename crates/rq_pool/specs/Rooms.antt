-- What a clause says of a room, of its seats and of what it leaves.
use Rattle.std.specs.Prelude.{◌≡◌, ℕ, ◌≤◌, List, [], ◌∷◌, length, take, drop, map, slice_get, Some, vec_items}
use Rattle.std.specs.Prelude.{vec_capacity}
use Rattle.crossbeam_deque.specs.Handles.{worker_deque, worker_view}
use Rattle.rq_pool.specs.declared.list_room.ListSeat.{ListSeat}
use Rattle.rq_pool.specs.declared.deque_room.DequeRoom.{DequeRoom}
use Rattle.rq_pool.specs.declared.deque_seat.DequeSeat.{DequeSeat}
use Rattle.rq_pool.specs.declared.room.Room.{Room}
use Rattle.rq_pool.specs.declared.room.Body.{Body}
use Rattle.rq_pool.specs.declared.room.Body.TheVariants.{Single, Several}
use Rattle.rq_pool.specs.declared.seat.Seat.{Seat}
use Rattle.rq_pool.specs.declared.seat.Place.{Place}
use Rattle.rq_pool.specs.declared.seat.Place.TheVariants.{Alone, Beside}
use Rattle.rq_pool.specs.declared.room.Left.{Left}
use Rattle.rq_pool.specs.Ledger.{size}
use Rattle.rq_pool.specs.Decks.{DeckId, list_in}
use Rattle.rq_pool.specs.Holdings.{Holds, source_id, stolen}
use Rattle.rq_pool.specs.Vaults.{reach}

-- the deques of the room, named by the seat that its vault was told of
abbrev pub ids_of : DequeRoom → List DeckId
ids_of room = reach room.vault.table.shared.key

-- the lists that were dealt to the deques
abbrev pub lists_of : DequeRoom → List (List ℕ)
lists_of room = map list_in (ids_of room)

-- the lists that were dealt to a room of one seat, or to one of several
abbrev pub deal_in : Body → List (List ℕ)
deal_in (Single room) = room.list.items ∷ []
deal_in (Several room) = lists_of room

-- the lists that were dealt, one for each seat
abbrev pub deal_of : Room → List (List ℕ)
deal_of room = deal_in room.body

-- how many seats a room with this body has
abbrev pub seats_in : Body → ℕ
seats_in (Single room) = 1
seats_in (Several room) = length (ids_of room)

-- how many seats the room was made with
abbrev pub seats_of : Room → ℕ
seats_of room = seats_in room.body

-- what a seat has taken, alone or beside others
abbrev pub taken_in : Place → List ℕ
taken_in (Alone seat) = seat.taken.items
taken_in (Beside seat) = seat.taken.items

-- what the seat has taken, in order
abbrev pub taken_of : Seat → List ℕ
taken_of seat = taken_in seat.place

-- a seat alone has taken the list so far
pub record IsListSeat (list : List ℕ) (seat : ListSeat) : Type 0 where
  pub front : seat.taken.items ≡ take (length seat.taken.items) list
  pub reserved : length list ≤ vec_capacity seat.taken

-- beside others, a seat took these numbers: from the deque of its number, and by its passes
abbrev pub HasTaken : List DeckId → DequeSeat → List ℕ → Type 0
HasTaken ids seat taken = Holds (map list_in ids) seat.number (worker_view seat.owner)
    (map stolen seat.sources.items) taken

-- beside others, a seat has the deque of its number and a pass for each deque, and its list is what
-- these took
pub record IsDequeSeat (ids : List DeckId) (seat : DequeSeat) : Type 0 where
  pub own : slice_get ids seat.number
      ≡ Some (worker_deque seat.owner, (worker_view seat.owner).dealt)
  pub sources : map source_id seat.sources.items ≡ ids
  pub holds : HasTaken ids seat seat.taken.items
  pub reserved : size (map list_in ids) ≤ vec_capacity seat.taken

-- the seat is alone, in the room of this list
abbrev pub IsPlaceAlone : List ℕ → Place → Type 0
IsPlaceAlone list (Alone seat) = IsListSeat list seat
IsPlaceAlone list (Beside seat) = ⊥

-- the seat is beside others, in the room of these deques
abbrev pub IsPlaceBeside : List DeckId → Place → Type 0
IsPlaceBeside ids (Alone seat) = ⊥
IsPlaceBeside ids (Beside seat) = IsDequeSeat ids seat

-- the seat of the room of this list
abbrev pub IsSeatAlone : List ℕ → Seat → Type 0
IsSeatAlone list seat = IsPlaceAlone list seat.place

-- a seat of the room of these deques
abbrev pub IsSeatBeside : List DeckId → Seat → Type 0
IsSeatBeside ids seat = IsPlaceBeside ids seat.place

-- the seat is that of a room of one, or one of a room of several
abbrev pub IsSeatIn : Body → Seat → Type 0
IsSeatIn (Single room) seat = IsSeatAlone room.list.items seat
IsSeatIn (Several room) seat = IsSeatBeside (ids_of room) seat

-- a seat of this room
abbrev pub IsSeatOf : Room → Seat → Type 0
IsSeatOf room seat = IsSeatIn room.body seat

-- the numbers that nobody took
abbrev pub left_of : Left → List ℕ
left_of left = drop left.from left.numbers.items

-- what each seat has taken, in the order in which the seats were handed in
abbrev pub takens_of : Left → List (List ℕ)
takens_of left = map vec_items left.takens.items
