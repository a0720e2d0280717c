-- The lines of a report that tell each client how far it came.
use Rattle.std.specs.Prelude.{◌≡◌, ◌<◌, ◌≤◌, ◌^◌, ◌==◌, ℕ, ◌+◌, Bool, true, false, if◌then◌else◌, List, [], ◌∷◌, ◌++◌}
use Rattle.std.specs.Prelude.{length, filter, codes, None, IsTrue}
use Rattle.std.specs.List.{AllByRecursion}
use Rattle.std.specs.Fmt.{decimal}
use Rattle.rq_model.specs.Records.{Record, Version}
use Rattle.rq_model.specs.Spelling.{is_name}
use Rattle.rq_model.specs.Frames.{log_limit, log_of, AreBytes}
use Rattle.rq_model.specs.States.{empty}
use Rattle.rq_model.specs.Machine.{latest}
use Rattle.rq_model.specs.Fronts.{IsFront}
use Rattle.rq_model.specs.Reports.{IsReport, registrant_line}
use Rattle.rq_model.specs.Checkpoints.{TrueAt, IsReportAt, IsReportUpTo}
use Rattle.rq_model.specs.Closing.{IsTail}
use Rattle.rq_model.specs.Fates.{requests, done, kills, with_aborts, remains, hears}
use Rattle.rq_model.specs.FateLaws.{begins_with, element_lines}
use Rattle.rq_model.specs.AllFiles.{File, AreFiles}

-- the byte before the first line
abbrev pub with_first : ℕ → List (List ℕ) → List (List ℕ)
with_first b [] = (b ∷ []) ∷ []
with_first b (line ∷ lines) = (b ∷ line) ∷ lines

-- the lines of a text, each with its LF
abbrev pub lines_of : List ℕ → List (List ℕ)
lines_of [] = []
lines_of (b ∷ text) =
    if b == 10 then (10 ∷ []) ∷ lines_of text else with_first b (lines_of text)

-- the lines between that of a queue and that of the next one; `here` says whether the lines begin
-- there
abbrev pub lines_under : ℕ → Bool → List (List ℕ) → List (List ℕ)
lines_under queue here [] = []
lines_under queue here (line ∷ lines) =
    if begins_with (codes "queue ") line
    then lines_under queue (begins_with (codes "queue " ++ (decimal queue ++ codes " ")) line) lines
    else (if here then line ∷ lines_under queue here lines else lines_under queue here lines)

-- those of the queue that begin with `r`, and those among them that begin with `r NAME`
abbrev pub registrant_lines : ℕ → List ℕ → List (List ℕ)
registrant_lines queue text =
    filter (begins_with (codes "r ")) (lines_under queue false (lines_of text))

abbrev pub client_lines : ℕ → List ℕ → List ℕ → List (List ℕ)
client_lines queue name text =
    filter (begins_with (codes "r " ++ (name ++ codes " "))) (registrant_lines queue text)

-- the line of a client with the latest operation that it hears of, or none
abbrev pub how_far_line : ℕ → List ℕ → List Record → List ℕ
how_far_line queue name rs = registrant_line
    (record { queue = queue; name = name; last = latest None (hears queue name empty rs) })

-- a line of a client that is registered
pub record IsClientLine (queue : ℕ) (rs : List Record) (line : List ℕ) : Type 0 where
  pub name : List ℕ
  pub registered : remains queue name rs ≡ true
  pub is : line ≡ how_far_line queue name rs

-- A client has one line, with the latest operation that it hears of, if it is registered; if it is
-- not, it has none. There are no lines of others
pub record TellsClients (rs : List Record) (text : List ℕ) : Type 0 where
  pub client : (queue : ℕ) (name : List ℕ) → queue < 2 ^ 64 → IsTrue (is_name name)
      → client_lines queue name text
      ≡ (if remains queue name rs then how_far_line queue name rs ∷ [] else [])
  pub only : (queue : ℕ) → queue < 2 ^ 64
      → AllByRecursion (IsClientLine queue rs) (registrant_lines queue text)

-- a text accounts for records: a number has a line `e p ..` as often as it was requested, less how
-- often it was done and killed; and the clients have their lines
pub record TextAccounts (rs : List Record) (text : List ℕ) : Type 0 where
  pub requests : (p : ℕ) → p < 2 ^ 64
      → element_lines p text + (done p rs + kills p rs) ≡ requests p rs
  pub clients : TellsClients rs text

-- So it is in a report of the log
abbrev pub ReportTellsClients : Type 0
ReportTellsClients =
    (b : List ℕ) (version : Version) (rs : List Record) (rest text : List ℕ) →
    IsFront b version rs rest → IsReport b text → TellsClients (with_aborts rs) text

-- in one of the front with a beginning of its tail
abbrev pub BeginningTellsClients : Type 0
BeginningTellsClients =
    (b tail part missing : List ℕ) (version : Version) (rs : List Record) (rest text : List ℕ)
    → AreBytes b → IsFront b version rs rest → IsTail b tail → tail ≡ part ++ missing
    → length (log_of version rs ++ part) ≤ log_limit → IsReport (log_of version rs ++ part) text
    → TellsClients (with_aborts rs) text

-- in one from a true checkpoint
abbrev pub CheckpointTellsClients : Type 0
CheckpointTellsClients =
    (b : List ℕ) (offset : ℕ) (version : Version) (rs : List Record) (rest text : List ℕ) →
    IsFront b version rs rest → TrueAt b offset → IsReportAt b offset text
    → TellsClients (with_aborts rs) text

-- and in one of the last of several files
abbrev pub FilesTellClients : Type 0
FilesTellClients =
    (most : ℕ) (version : Version) (log : List ℕ) (files : List File) (newest : File)
    (records : List Record) (text : List ℕ) → AreFiles version log files newest records
    → IsReportUpTo most newest.bytes newest.offset text → TellsClients (with_aborts records) text
