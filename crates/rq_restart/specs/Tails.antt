-- Where the front of a log ends, its tail, and the log closed.
use Rattle.std.specs.Prelude.{◌≡◌, ◌⊎◌, ℕ, ◌+◌, ◌<◌, ◌≤◌, List, ◌∷◌, ◌++◌, length, map, take, drop, Result, Ok, Err}
use Rattle.std.specs.Global.{Vec}
use Rattle.rq_model.specs.Records.{Record, Checkpoint, Version}
use Rattle.rq_model.specs.Frames.{log_limit, start, log_of, frames_of, last_of, before}
use Rattle.rq_model.specs.States.{State, empty}
use Rattle.rq_model.specs.Machine.{run, aborts}
use Rattle.rq_model.specs.Fronts.{IsFront, IsWhy}
use Rattle.rq_model.specs.Carrying.{IsCarriedFront}
use Rattle.rq_model.specs.Closing.{IsClosedBy, IsClosed}
use Rattle.rq_record.specs.declared.fault.Fault.{Fault}
use Rattle.rq_record.specs.declared.fault.Fault.TheVariants.{TooLarge, Resources}
use Rattle.rq_record.specs.Views.{record_of, version_of}
use Rattle.rq_front.specs.Chains.{IsLog, Refused}
use Rattle.rq_judged.specs.Refusals.{RefusedCarried}
use Rattle.rq_judged.specs.Views.{why_of}
use Rattle.rq_restart.specs.declared.restarts.FoundFront.{FoundFront}
use Rattle.rq_restart.specs.declared.tails.Ending.{Ending}

-- why b is not closed: its front and its tail together are longer than a log may be, or b is too
-- long, or no log; or memory ran out
abbrev pub StaysOpen : List ℕ → Fault → Type 0
StaysOpen b TooLarge = IsLog b
    × (closed : List ℕ) × IsClosed b closed × (log_limit < length closed)
StaysOpen b e = Refused b e

-- where the front of b ends, for this reason, and the tail that closes it; so many units are open
-- there
pub record IsEnding (b : List ℕ) (e : Ending) : Type 0 where
  pub log : IsLog b
  pub records : List Record
  pub front : IsFront b (version_of e.version) records (drop e.end.used b)
  pub ends : IsWhy (version_of e.version) (run empty records)
      (last_of (start (version_of e.version)) records) (drop e.end.used b) (why_of e.end.why)
  pub used : e.end.used ≡ length (log_of (version_of e.version) records)
  pub count : e.end.records ≡ length records
  pub after : 40 ≤ e.end.used
  pub within : e.end.used ≤ length b
  pub units : e.units ≡ length (run empty records).units
  pub closed : IsClosedBy b e.tail.items (take e.end.used b ++ e.tail.items)
  pub room : length (take e.end.used b ++ e.tail.items) ≤ log_limit

-- that, or why b is not closed
abbrev pub EndsLog : List ℕ → Result Ending Fault → Type 0
EndsLog b (Ok e) = IsEnding b e
EndsLog b (Err e) = StaysOpen b e

-- the frames of the aborts of the units that are open behind the front of b from a checkpoint on
abbrev pub tail_at : List ℕ → ℕ → State → List ℕ → List Record → List ℕ
tail_at b offset base kept after =
    frames_of (last_of (before offset b) (Checkpoint kept ∷ after))
    (aborts (run base (Checkpoint kept ∷ after)))

-- where the front of a carried file that is read as the log b ends, from the checkpoint at an offset,
-- for this reason, and these frames
pub record IsEndingAt (b : List ℕ) (offset : ℕ) (e : Ending) : Type 0 where
  pub base : State
  pub kept : List ℕ
  pub after : List Record
  pub front : IsCarriedFront b offset (version_of e.version) base kept after (drop e.end.used b)
  pub ends : IsWhy (version_of e.version) (run base (Checkpoint kept ∷ after))
      (last_of (before offset b) (Checkpoint kept ∷ after)) (drop e.end.used b) (why_of e.end.why)
  pub used : e.end.used
      ≡ offset + length (frames_of (before offset b) (Checkpoint kept ∷ after))
  pub count : e.end.records ≡ length (Checkpoint kept ∷ after)
  pub past_header : 40 ≤ e.end.used
  pub within : e.end.used ≤ length b
  pub units : e.units ≡ length (run base (Checkpoint kept ∷ after)).units
  pub tail : e.tail.items ≡ tail_at b offset base kept after
  pub room : e.end.used + length e.tail.items ≤ log_limit

-- with these frames the log would be too long
pub record IsCrowdedAt (b : List ℕ) (offset : ℕ) : Type 0 where
  pub version : Version
  pub base : State
  pub kept : List ℕ
  pub after : List Record
  pub rest : List ℕ
  pub front : IsCarriedFront b offset version base kept after rest
  pub long : log_limit < offset
      + (length (frames_of (before offset b) (Checkpoint kept ∷ after))
      + length (tail_at b offset base kept after))

-- why there is no such end
abbrev pub StaysOpenAt : List ℕ → ℕ → Fault → Type 0
StaysOpenAt b offset TooLarge = IsCrowdedAt b offset
StaysOpenAt b offset e = RefusedCarried b offset e

abbrev pub EndsLogAt : List ℕ → ℕ → Result Ending Fault → Type 0
EndsLogAt b offset (Ok e) = IsEndingAt b offset e
EndsLogAt b offset (Err e) = StaysOpenAt b offset e

-- Of a front of b that was found: the frames of the aborts behind it.
abbrev pub tail_behind : List ℕ → FoundFront → List ℕ
tail_behind b f = frames_of (before f.front.end b)
    (aborts (run f.state (map record_of f.front.records.items)))

-- its end, with them
pub record IsEndingOf (b : List ℕ) (f : FoundFront) (e : Ending) : Type 0 where
  pub is : e ≡ record {
    version = f.version;
    end = record { used = f.front.end; records = e.end.records; why = f.front.why };
    units = e.units;
    tail = e.tail;
  }
  pub count : e.end.records ≡ length (map record_of f.front.records.items)
  pub units : e.units ≡ length (run f.state (map record_of f.front.records.items)).units
  pub tail : e.tail.items ≡ tail_behind b f
  pub room : f.front.end + length e.tail.items ≤ log_limit

-- why there is none: the log would be too long with them, or memory was refused
abbrev pub IsCrowded : List ℕ → FoundFront → Fault → Type 0
IsCrowded b f e = ((e ≡ TooLarge) × (log_limit < f.front.end + length (tail_behind b f)))
    ⊎ (e ≡ Resources)

-- the tail of b, which closes it, or why there is none
abbrev pub Tails : List ℕ → Result (Vec ℕ) Fault → Type 0
Tails b (Ok v) = IsLog b × (closed : List ℕ) × IsClosedBy b v.items closed
    × (length closed ≤ log_limit)
Tails b (Err e) = StaysOpen b e

-- b closed, or why it is not
abbrev pub Closes : List ℕ → Result (Vec ℕ) Fault → Type 0
Closes b (Ok v) = IsLog b × IsClosed b v.items × (length v.items ≤ log_limit)
Closes b (Err e) = StaysOpen b e
