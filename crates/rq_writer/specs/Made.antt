-- From a script to a log: line after line, each appends one frame. Every script has one answer.
use Rattle.std.specs.Prelude.{◌≡◌, ℕ, ◌+◌, ◌<◌, ◌≤◌, ⊤, List, [], ◌∷◌, ◌++◌, length, Result, Ok, Err}
use Rattle.std.specs.List.{AllByRecursion, flat_map}
use Rattle.rq_model.specs.Records.{Record, Checkpoint, Version}
use Rattle.rq_model.specs.Frames.{log_limit, log_of}
use Rattle.rq_model.specs.States.{State, empty}
use Rattle.rq_model.specs.Machine.{run}
use Rattle.rq_model.specs.StateSpelling.{state_bytes}
use Rattle.rq_model.specs.Fronts.{IsFront}
use Rattle.rq_record.specs.declared.fault.Fault.{Fault}
use Rattle.rq_record.specs.declared.fault.Fault.TheVariants as faults
use Rattle.rq_writer.specs.Script.{Line, Told, Spelled, IsLine, line_text}

-- a line and its end
abbrev pub ended : Line → List ℕ
ended l = line_text l ++ 10 ∷ []

abbrev pub script_of : List Line → List ℕ
script_of ls = flat_map ended ls

-- there is no line at the front
abbrev pub NoLine : Version → List ℕ → Type 0
NoLine version rest = (l : Line) (after : List ℕ) →
    IsLine version l → rest ≡ line_text l ++ 10 ∷ after → ⊥

-- the state after the front of the log of the records
abbrev pub IsStateOf : Version → List Record → State → Type 0
IsStateOf version rs s = (front : List Record) × (rest : List ℕ)
    × IsFront (log_of version rs) version front rest × (s ≡ run empty front)

-- how long the spelling of a state may be
abbrev pub spelling_limit : ℕ
spelling_limit = 268435455

-- the record that a line adds to the log of records
abbrev pub Adds : Version → List Record → Line → Record → Type 0
Adds version rs (Told told) r = r ≡ told
Adds version rs Spelled r = (s : State) × IsStateOf version rs s
    × (length (state_bytes s) ≤ spelling_limit) × (r ≡ Checkpoint (state_bytes s))

-- the records that lines add, one after the other, after those before
abbrev pub AreAdded : Version → List Record → List Line → List Record → Type 0
AreAdded version before [] after = after ≡ before
AreAdded version before (l ∷ ls) after = (r : Record) × Adds version before l r
    × AreAdded version (before ++ r ∷ []) ls after

-- the script begins with these lines, which add these records, and their log keeps within a log's
-- limit
pub record BeginsWithLines (version : Version) (script : List ℕ)
    (ls : List Line) (rs : List Record) (rest : List ℕ) : Type 0 where
  pub lines : AllByRecursion (IsLine version) ls
  pub whole : script ≡ script_of ls ++ rest
  pub added : AreAdded version [] ls rs
  pub fits : length (log_of version rs) ≤ log_limit

-- what comes after these lines is no line
pub record Stops (version : Version) (script : List ℕ) (number : ℕ)
    (ls : List Line) (rs : List Record) (rest : List ℕ) : Type 0 where
  pub begins : BeginsWithLines version script ls rs rest
  pub some : 0 < length rest
  pub none : NoLine version rest
  pub is : number ≡ length ls + 1

-- the line after these is a checkpoint of a state whose spelling is too long
pub record Swells (version : Version) (script : List ℕ) (ls : List Line)
    (rs : List Record) (rest : List ℕ) (s : State) : Type 0 where
  pub begins : BeginsWithLines version script ls rs (ended Spelled ++ rest)
  pub state : IsStateOf version rs s
  pub long : spelling_limit < length (state_bytes s)

-- the line after these makes the log too long
pub record PassesLimit (version : Version) (script : List ℕ) (ls : List Line)
    (rs : List Record) (l : Line) (r : Record) (rest : List ℕ) : Type 0 where
  pub begins : BeginsWithLines version script ls rs (ended l ++ rest)
  pub line : IsLine version l
  pub adds : Adds version rs l r
  pub long : log_limit < length (log_of version (rs ++ r ∷ []))

-- Made: the log of the script, or the fault of its earliest line that has one
abbrev pub Made : {X : Type 0} → Version → (X → List ℕ) → List ℕ → Result X Fault → Type 0
Made version view script (Ok log) = (ls : List Line) × (rs : List Record)
    × BeginsWithLines version script ls rs [] × (view log ≡ log_of version rs)
Made version view script (Err (faults.Script number)) =
    (ls : List Line) × (rs : List Record) × (rest : List ℕ) × Stops version script number ls rs rest
Made version view script (Err faults.TooLarge) = (ls : List Line) × (rs : List Record)
    × (rest : List ℕ) × (s : State) × Swells version script ls rs rest s
Made version view script (Err faults.TooLong) = (ls : List Line) × (rs : List Record)
    × (l : Line) × (r : Record) × (rest : List ℕ) × PassesLimit version script ls rs l r rest
Made version view script (Err faults.Resources) = ⊤
Made version view script (Err _) = ⊥

-- the log of the script, or its fault, if memory is not refused
abbrev pub Answers : Version → List ℕ → Result (List ℕ) Fault → Type 0
Answers version script result = Made version (λ log. log) script result
    × (result ≡ Err faults.Resources → ⊥)

-- Every script is made or has a fault
abbrev pub EveryScriptHasAnswer : Type 0
EveryScriptHasAnswer = (version : Version) (script : List ℕ) →
    (result : Result (List ℕ) Fault) × Answers version script result

-- and it has only one: one log, or the fault of its earliest line that has one
abbrev pub OneAnswer : Type 0
OneAnswer = (version : Version) (script : List ℕ) (x y : Result (List ℕ) Fault) →
    Answers version script x → Answers version script y → x ≡ y
