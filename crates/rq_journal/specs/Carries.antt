-- A log that goes on from another, and its audit.
use Rattle.std.specs.Prelude.{◌≡◌, ◌<◌, ◌≤◌, ◌⊎◌, ◌==◌, ℕ, Bool, if◌then◌else◌, List, [], ◌∷◌, ◌++◌}
use Rattle.std.specs.Prelude.{length, drop, map, nat_lt, ◌-◌, Option, Some, None, Result, Ok, Err}
use Rattle.std.specs.Global.{Vec}
use Rattle.rq_model.specs.Records.{Record, Checkpoint, Version}
use Rattle.rq_model.specs.Frames.{log_limit, start, frame, frames_of, last_of, before, Whole}
use Rattle.rq_model.specs.States.{State, empty}
use Rattle.rq_model.specs.Machine.{run}
use Rattle.rq_model.specs.StateSpelling.{state_bytes, SpellsCarried, carried_next}
use Rattle.rq_model.specs.Fronts.{IsLongest, IsFront, Ends, restarted}
use Rattle.rq_model.specs.Appending.{MayFollow}
use Rattle.rq_model.specs.Carrying.{IsCarriedFront, IsCarriedRestart, HasCarriedHeader, carried_file, carried_at, as_log, begun_anew}
use Rattle.rq_record.specs.declared.fault.Fault.{Fault}
use Rattle.rq_record.specs.declared.fault.Fault.TheVariants.{Resources, TooLarge, TooLong}
use Rattle.rq_front.specs.Chains.{IsHeaded, Refused}
use Rattle.rq_judged.specs.Refusals.{RefusedCarried}
use Rattle.rq_restart.specs.Audits.{IsAuditAt, audited_of}
use Rattle.rq_journal.specs.declared.carried_logs.Truth.{Truth}
use Rattle.rq_journal.specs.declared.carried_logs.Truth.TheVariants.{Carried, True, False}

-- a carried file of one frame, that of this body, behind these 32 bytes; or memory was refused
abbrev pub BeginsFile : Version → List ℕ → List ℕ → Result (Vec ℕ) Fault → Type 0
BeginsFile version link body (Ok v) = v.items ≡ carried_file version link (frame link body)
BeginsFile version link body (Err e) = e ≡ Resources

-- new is a carried file that begins anew in the state, behind these 32 bytes: as it is read, a
-- restart from its checkpoint begins in that state. As it is, it is no log
pub record IsBegunIn (version : Version) (link : List ℕ) (s : State) (new : List ℕ) : Type 0 where
  pub bytes : new ≡ begun_anew version link s
  pub headed : HasCarriedHeader version new
  pub linked : before carried_at (as_log version new) ≡ link
  pub there : IsCarriedFront (as_log version new) carried_at version s (state_bytes s) [] []
  pub restart : IsCarriedRestart (as_log version new) carried_at
      (restarted (run s (Checkpoint (state_bytes s) ∷ [])) 0 (length new) (Ends Whole))
  pub apart : IsHeaded new → ⊥

-- whatever stands behind new, its front, as it is read, is that of these records, and its own, in one
-- log
abbrev pub JoinsBehind : Version → List Record → List ℕ → Type 0
JoinsBehind version records new =
    (more : List ℕ) (s : State) (kept : List ℕ) (after : List Record) (left : List ℕ) →
    IsCarriedFront (as_log version (new ++ more)) carried_at version s kept after left
    → IsLongest version empty (start version)
    (frames_of (start version) records ++ drop carried_at (as_log version (new ++ more)))
    (records ++ Checkpoint kept ∷ after) left
    × (run s (Checkpoint kept ∷ after) ≡ run empty (records ++ Checkpoint kept ∷ after))

-- The carried file that goes on from the front of b: it begins anew in the state there, by the
-- digests of b
pub record IsCarriedOn (b new : List ℕ) : Type 0 where
  pub version : Version
  pub records : List Record
  pub rest : List ℕ
  pub front : IsFront b version records rest
  pub begun : IsBegunIn version (last_of (start version) records) (run empty records) new
  pub joins : JoinsBehind version records new

-- why b is not carried: the spelling of the state behind its front would be too long, or else as it
-- is refused
abbrev pub StaysHere : List ℕ → Fault → Type 0
StaysHere b TooLarge = (version : Version) × (records : List Record) × (rest : List ℕ)
    × IsFront b version records rest × (268435455 < length (state_bytes (run empty records)))
StaysHere b e = Refused b e

abbrev pub Carries : List ℕ → Result (Vec ℕ) Fault → Type 0
Carries b (Ok v) = IsCarriedOn b v.items
Carries b (Err e) = StaysHere b e

-- The carried file that goes on from the front of another, which is read as the log b. Where b begins
-- in the state behind some records, and by their digests, new joins these and the front of b
pub record IsCarriedAgain (b new : List ℕ) : Type 0 where
  pub version : Version
  pub base : State
  pub kept : List ℕ
  pub after : List Record
  pub rest : List ℕ
  pub front : IsCarriedFront b carried_at version base kept after rest
  pub begun : IsBegunIn version (last_of (before carried_at b) (Checkpoint kept ∷ after))
      (run base (Checkpoint kept ∷ after)) new
  pub joins : (records : List Record) → MayFollow version empty records
      → before carried_at b ≡ last_of (start version) records
      → SpellsCarried version (run empty records) kept
      → JoinsBehind version (records ++ Checkpoint kept ∷ after) new

-- the state behind the front of b, as which a carried file is read
pub record IsCarriedState (b : List ℕ) (s : State) : Type 0 where
  pub version : Version
  pub base : State
  pub kept : List ℕ
  pub after : List Record
  pub rest : List ℕ
  pub front : IsCarriedFront b carried_at version base kept after rest
  pub state : s ≡ run base (Checkpoint kept ∷ after)

-- why b is not carried again: the spelling of that state would be too long, or it numbers too many
-- records; or else as it is refused
abbrev pub StaysThere : List ℕ → Fault → Type 0
StaysThere b TooLarge = (s : State) × IsCarriedState b s × (s.next ≤ carried_next)
    × (268435455 < length (state_bytes s))
StaysThere b TooLong = (log_limit < length b)
    ⊎ ((s : State) × IsCarriedState b s × (carried_next ≤ s.next))
StaysThere b e = RefusedCarried b carried_at e

abbrev pub CarriesAgain : List ℕ → Result (Vec ℕ) Fault → Type 0
CarriesAgain b (Ok v) = IsCarriedAgain b v.items
CarriesAgain b (Err e) = StaysThere b e

-- how many records may still be numbered, if that is fewer than the least frames, of 37 bytes, that a
-- file has room for
abbrev pub scarce_numbers : ℕ → Option ℕ
scarce_numbers next =
    if nat_lt (carried_next - next) 116080196 then Some (carried_next - next) else None

-- What is told of the checkpoints of a log that was carried on.

-- the file begins with the one at 72; any other is true or false
abbrev pub truth_of : ℕ → Bool → Truth
truth_of at is_true = if at == carried_at then Carried else (if is_true then True else False)

abbrev pub as_told : ℕ × Bool → ℕ × Truth
as_told x = (x.0, truth_of x.0 x.1)

-- that of each checkpoint of the front of b, as which a carried file is read
abbrev pub TellsAudit : List ℕ → List (ℕ × Truth) → Type 0
TellsAudit b told = (found : List (ℕ × Bool)) × IsAuditAt b carried_at (map audited_of found)
    × (told ≡ map as_told found)
