-- The front of the log that is being made.
use Rattle.std.specs.Prelude.{◌≡◌, ◌<◌, ◌≤◌, Bool, true, false, ⊤, List, ◌∷◌, ◌++◌, length, map, Result, Ok, Err}
use Rattle.std.specs.List.{AllByRecursion}
use Rattle.rq_model.specs.Records.{Record, Version}
use Rattle.rq_model.specs.Spelling.{IsRecord}
use Rattle.rq_model.specs.Frames.{log_limit, log_of}
use Rattle.rq_model.specs.States.{State, empty}
use Rattle.rq_model.specs.Machine.{is_lawful, all_lawful, run}
use Rattle.rq_model.specs.StateSpelling.{state_bytes}
use Rattle.rq_record.specs.Views.{record_of}
use Rattle.rq_record.specs.declared.fault.Fault.{Fault}
use Rattle.rq_record.specs.declared.fault.Fault.TheVariants as faults
use Rattle.rq_record.specs.Views as code
use Rattle.rq_writer.specs.Made.{IsStateOf, Adds, spelling_limit}
use Rattle.rq_writer.specs.Script.{Spelled}
use Rattle.rq_writer.specs.declared.front.MadeFront.{MadeFront}

-- the state is the one after the first records, and the others follow it; or the first of the
-- others is unlawful
abbrev pub Splits : Version → State → List Record → Bool → List Record → Type 0
Splits version s since false rs = (done : List Record) × (rs ≡ done ++ since)
    × (all_lawful version empty done ≡ true) × (s ≡ run empty done)
Splits version s since true rs =
    (done : List Record) × (first : Record) × (more : List Record) × (rs ≡ done ++ first ∷ more)
    × (all_lawful version empty done ≡ true)
    × (is_lawful version s first ≡ false) × (s ≡ run empty done)

-- the front of the log of the records
abbrev pub IsFrontAfter : Version → MadeFront → List Record → Type 0
IsFrontAfter version front rs =
    Splits version front.state (map record_of front.since.items) front.ended rs

-- records that have a log
pub record AreLogged (version : Version) (rs : List Record) : Type 0 where
  pub records : AllByRecursion (IsRecord version) rs
  pub fits : length (log_of version rs) ≤ log_limit

-- a checkpoint of the state after the front
abbrev pub SpellsFront : Version → MadeFront → MadeFront → Result code.Record Fault → Type 0
SpellsFront version old new (Ok r) = (rs : List Record) → IsFrontAfter version old rs
    → AreLogged version rs → IsFrontAfter version new rs × Adds version rs Spelled (record_of r)
SpellsFront version old new (Err faults.TooLarge) =
    (rs : List Record) → IsFrontAfter version old rs → AreLogged version rs
    → (s : State) × IsStateOf version rs s × (spelling_limit < length (state_bytes s))
SpellsFront version old new (Err faults.Resources) = ⊤
SpellsFront version old new (Err _) = ⊥
