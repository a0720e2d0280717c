-- Where the records of a file begin: a log begins without any, a carried file in a state that another
-- log came to.
use Rattle.std.specs.Prelude.{◌≡◌, ⊤, ℕ, List, [], ◌∷◌, ◌++◌, length}
use Rattle.rq_model.specs.Records.{Record, Checkpoint, Version}
use Rattle.rq_model.specs.Frames.{header, start, frames_of, last_of}
use Rattle.rq_model.specs.States.{State, empty}
use Rattle.rq_model.specs.Machine.{run}
use Rattle.rq_model.specs.StateSpelling.{state_bytes, SpellsCarried}
use Rattle.rq_model.specs.Carrying.{carried_header}

-- a log; or a carried file, whose first frame stands behind these 32 bytes and spells this state
pub data Start : Type 0 where
  Plain : (version : Version) → Start
  Carried : (version : Version) (link : List ℕ) (s : State) → Start

-- by whose rules its records are lawful
abbrev pub rules_of : Start → Version
rules_of (Plain version) = version
rules_of (Carried version link s) = version

-- the state before its first record
abbrev pub base_of : Start → State
base_of (Plain version) = empty
base_of (Carried version link s) = s

-- the 32 bytes before its first frame
abbrev pub link_of : Start → List ℕ
link_of (Plain version) = start version
link_of (Carried version link s) = link

-- all bytes before that
abbrev pub bytes_ahead : Start → List ℕ
bytes_ahead (Plain version) = header version
bytes_ahead (Carried version link s) = carried_header version ++ link

-- the file of some records: of a log, `log_of`
abbrev pub file_of : Start → List Record → List ℕ
file_of from rs = bytes_ahead from ++ frames_of (link_of from) rs

-- the state behind them, and the last 32 bytes
abbrev pub state_reached : Start → List Record → State
state_reached from rs = run (base_of from) rs

abbrev pub last_behind : Start → List Record → List ℕ
last_behind from rs = last_of (link_of from) rs

-- the record that spells the state
abbrev pub checkpoint_in : State → Record
checkpoint_in s = Checkpoint (state_bytes s)

-- those of a carried file begin with the checkpoint of its state
abbrev pub AreBegun : Start → List Record → Type 0
AreBegun (Plain version) rs = ⊤
AreBegun (Carried version link s) rs = (length link ≡ 32) × SpellsCarried version s (state_bytes s)
    × (after : List Record) × (rs ≡ checkpoint_in s ∷ after)

-- the carried file that goes on behind these records, and its only record
abbrev pub carried_behind : Start → List Record → Start
carried_behind from rs = Carried (rules_of from) (last_behind from rs) (state_reached from rs)

abbrev pub begun_behind : Start → List Record → List Record
begun_behind from rs = checkpoint_in (state_reached from rs) ∷ []
