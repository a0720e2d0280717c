-- What a clause says of a countdown, of its passes and of its close.
use Rattle.std.specs.Prelude.{◌≡◌, ℕ, ◌<◌, List, [], length, All, Option, Some, None, slice_index_or, flat_map}
use Rattle.rq_pool.specs.declared.countdown.fits.Fits.{Ghosts}
use Rattle.rq_pool.specs.declared.countdown.arrival.Entry.{Entry}
use Rattle.rq_pool.specs.declared.countdown.closing.Closing.{Closing}
use Rattle.rq_pool.specs.declared.countdown.pass.Pass.{Pass}
use Rattle.rq_pool.specs.declared.countdown.Countdown.{Countdown}
use Rattle.rq_pool.specs.Countdowns.Arrivals.{last_lists}

module _ {T K : Type 0} where
  -- what the outboxes are to fit
  abbrev pub key_of : Countdown T K → K
  key_of c = c.table.shared.key.key

  -- how many sources it was opened with, numbered from 0
  abbrev pub sources_of : Countdown T K → ℕ
  sources_of c = c.sources

  -- how many passes it was opened with
  abbrev pub passes_of : Countdown T K → ℕ
  passes_of c = c.table.shared.key.passes

module _ {T K : Type 0} {g : Ghosts T K} where
  -- the pass is one of this countdown
  abbrev pub IsPassOf : Countdown T K → Pass T K g → Type 0
  IsPassOf c p = (p.seat.table_id ≡ c.table.shared.table_id)
      × (p.seat.me.0.key ≡ Some c.table.shared.key.key)

  -- the arrivals that were made with the pass, in order
  abbrev pub history_of : Pass T K g → List (Entry T)
  history_of p = p.diary

  -- those of several passes, one after the other
  abbrev pub history_in : List (Pass T K g) → List (Entry T)
  history_in = flat_map (λ p. p.diary)

  -- the pass at this index was answered Last, once; or no pass was
  abbrev pub TellsLast : List (Pass T K g) → Option ℕ → Type 0
  TellsLast passes (Some k) = (k < length passes)
      × ((d : Pass T K g) → length (last_lists (history_of (slice_index_or passes k d))) ≡ 1)
  TellsLast passes None = All (λ p. last_lists (history_of p) ≡ []) passes

module _ {T : Type 0} where
  -- how many sources had an arrival
  abbrev pub arrived_of : Closing T → ℕ
  arrived_of closing = closing.arrived

  -- the index of the pass that was answered Last
  abbrev pub last_in : Closing T → Option ℕ
  last_in closing = closing.last

  -- the outboxes that nobody was given
  abbrev pub home_of : Closing T → List T
  home_of closing = closing.home.items

  -- the arrivals of each pass, in the order in which the passes were handed in
  abbrev pub histories_of : Closing T → List (List (Entry T))
  histories_of closing = closing.histories
