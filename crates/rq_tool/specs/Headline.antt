-- What a run of the engine does.
use Rattle.std.specs.Prelude.{◌≡◌, ℕ, ◌<◌, ◌≤◌, List, length, Option, Result, Ok, Err, ⊤}
use Rattle.std.specs.Io.KnownBytes.{Keeps, Appends}
use Rattle.rq_model.specs.Records.{Record, Version}
use Rattle.rq_model.specs.Frames.{log_limit}
use Rattle.rq_model.specs.Fronts.{IsFront}
use Rattle.rq_model.specs.Reports.{IsReport}
use Rattle.rq_model.specs.Checkpoints.{IsReportAt}
use Rattle.rq_model.specs.Fates.{with_aborts}
use Rattle.rq_model.specs.AllFiles.{File, AreFiles}
use Rattle.rq_model.specs.ClientLines.{TextAccounts}
use Rattle.rq_front.specs.Chains.{IsHeaded, IsLog}
use Rattle.rq_judged.specs.Refusals.{RefusedAt}
use Rattle.rq_record.specs.declared.fault.Fault.{Fault}
use Rattle.rq_record.specs.declared.fault.Fault.TheVariants.{TooLong, NotALog, Resources, ReadFailed, WriteFailed}
use Rattle.rq_report.specs.Streams.{AppendsFront}
use Rattle.rq_tool.specs.Streams.{Writes}

-- a run over the bytes b, where the writer held the bytes `old` before and holds `new` afterwards:
-- the report of b is written, and nothing else; or nothing is, since b is too long or no log,
-- memory is refused or a read failed; or a beginning of the report is, and then a write failed
abbrev pub Runs : List ℕ → Option (List ℕ) → Option (List ℕ) → Result (Unit {0}) Fault → Type 0
Runs b old new (Ok done) = IsLog b × (text : List ℕ) × IsReport b text × Appends old new text
Runs b old new (Err TooLong) = (log_limit < length b) × Keeps old new
Runs b old new (Err NotALog) = (length b ≤ log_limit) × (IsHeaded b → ⊥) × Keeps old new
Runs b old new (Err Resources) = Keeps old new
Runs b old new (Err ReadFailed) = Keeps old new
Runs b old new (Err WriteFailed) = IsLog b
    × (text : List ℕ) × IsReport b text × AppendsFront old new text
Runs b old new (Err e) = ⊥

-- a refusal that comes before anything is written
abbrev pub IsBeforeWriting : Fault → Type 0
IsBeforeWriting TooLong = ⊤
IsBeforeWriting NotALog = ⊤
IsBeforeWriting Resources = ⊤
IsBeforeWriting ReadFailed = ⊤
IsBeforeWriting e = ⊥

-- also where the reader tells no bytes: nothing is written but a report or, where a write fails, a
-- beginning of one
abbrev pub WritesOnly : Option (List ℕ) → Option (List ℕ) → Result (Unit {0}) Fault → Type 0
WritesOnly old new (Ok done) = (b text : List ℕ) × IsReport b text × Appends old new text
WritesOnly old new (Err WriteFailed) =
    (b text : List ℕ) × IsReport b text × AppendsFront old new text
WritesOnly old new (Err e) = IsBeforeWriting e × Keeps old new

-- A run from the checkpoint at an offset.

-- over the bytes b: the report from there is written, and nothing else; or nothing is, since no
-- checkpoint begins there or it spells no state, or for what refuses a run; or a beginning of the
-- report is, and then a write failed
abbrev pub RunsAt : List ℕ → ℕ → Option (List ℕ)
    → Option (List ℕ) → Result (Unit {0}) Fault → Type 0
RunsAt b offset = Writes (λ text. IsLog b × IsReportAt b offset text) (RefusedAt b offset)

-- from a true checkpoint: the report of b is written, and nothing else; or nothing is, since memory
-- is refused or a read failed; or a beginning of the report is, and then a write failed
abbrev pub WritesReport : List ℕ → Option (List ℕ)
    → Option (List ℕ) → Result (Unit {0}) Fault → Type 0
WritesReport b = Writes (IsReport b) (λ e. e ≡ Resources)

-- What is written accounts for requests and clients.

-- a report that is written accounts for these records
abbrev pub WritesAccount : List Record → Option (List ℕ)
    → Option (List ℕ) → Result (Unit {0}) Fault → Type 0
WritesAccount records old new (Ok done) = (text : List ℕ) × Appends old new text
    × TextAccounts (with_aborts records) text
WritesAccount records old new (Err e) = ⊤

-- for those of the front of b
abbrev pub AccountsForFront : List ℕ → Option (List ℕ)
    → Option (List ℕ) → Result (Unit {0}) Fault → Type 0
AccountsForFront b old new (Ok done) =
    (version : Version) × (records : List Record) × (rest : List ℕ)
    × IsFront b version records rest × WritesAccount records old new (Ok done)
AccountsForFront b old new (Err e) = ⊤

-- if b is the last file of several, and its checkpoint stands at the offset: for those of all files
abbrev pub AccountsForFiles : List ℕ → ℕ → Option (List ℕ)
    → Option (List ℕ) → Result (Unit {0}) Fault → Type 0
AccountsForFiles b offset old new result =
    (version : Version) (log : List ℕ) (files : List File) (newest : File) (records : List Record)
    → AreFiles version log files newest records → newest.bytes ≡ b → newest.offset ≡ offset
    → WritesAccount records old new result
