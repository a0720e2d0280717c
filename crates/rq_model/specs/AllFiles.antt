-- A log and all files that it was carried on in: a restart of the last one accounts for the
-- requests and clients of the records of all, and so does its report.
use Rattle.std.specs.Prelude.{◌≡◌, ◌<◌, ◌≤◌, ◌^◌, ℕ, ◌+◌, List, [], ◌∷◌, ◌++◌, length, drop, ⊤}
use Rattle.rq_model.specs.Records.{Record, Checkpoint, Version}
use Rattle.rq_model.specs.Frames.{log_limit, start, frames_of, last_of, before}
use Rattle.rq_model.specs.States.{State, empty}
use Rattle.rq_model.specs.Machine.{run, aborts}
use Rattle.rq_model.specs.StateSpelling.{SpellsCarried, state_bytes}
use Rattle.rq_model.specs.Fronts.{IsFront, Restarted, Why, restarted}
use Rattle.rq_model.specs.Checkpoints.{IsRestartUpTo, IsReportUpTo}
use Rattle.rq_model.specs.Appending.{FitsCheckpoint, MayFollow}
use Rattle.rq_model.specs.Carrying.{IsCarriedFront}
use Rattle.rq_model.specs.Fates.{requests, done, kills, with_aborts}
use Rattle.rq_model.specs.FateLaws.{Accounts, element_lines}

-- a file that a log is carried on in: its bytes, where its checkpoint stands and what that keeps,
-- the records after it, and the bytes after these
pub record File : Type 0 where
  pub bytes : List ℕ
  pub offset : ℕ
  pub kept : List ℕ
  pub after : List Record
  pub rest : List ℕ

abbrev pub records_in : File → List Record
records_in file = Checkpoint file.kept ∷ file.after

-- the file carries on these records: it is linked to their last 32 bytes, and its checkpoint spells
-- the state after them
pub record CarriesOn (version : Version) (records : List Record) (file : File) : Type 0 where
  pub state : State
  pub front : IsCarriedFront file.bytes file.offset version state file.kept file.after file.rest
  pub link : before file.offset file.bytes ≡ last_of (start version) records
  pub spells : SpellsCarried version (run empty records) file.kept

-- So does a file that begins with a checkpoint of that state, behind those bytes, whatever was
-- written there since
abbrev pub BegunFileCarriesOn : Type 0
BegunFileCarriesOn =
    (version : Version) (records : List Record) (file : File) (s : State) (more : List ℕ) →
    SpellsCarried version (run empty records) (state_bytes (run empty records))
    → FitsCheckpoint (run empty records)
    → before file.offset file.bytes ≡ last_of (start version) records
    → drop file.offset file.bytes
    ≡ frames_of (last_of (start version) records)
    (Checkpoint (state_bytes (run empty records)) ∷ []) ++ more
    → IsCarriedFront file.bytes file.offset version s file.kept file.after file.rest
    → CarriesOn version records file

-- these records, and those of the files after them
abbrev pub records_of_all : List Record → List File → List Record
records_of_all records [] = records
records_of_all records (file ∷ files) = records_of_all (records ++ records_in file) files

-- each file carries on the records of all before it
abbrev pub AreCarriedOn : Version → List Record → List File → Type 0
AreCarriedOn version records [] = ⊤
AreCarriedOn version records (file ∷ files) = CarriesOn version records file
    × AreCarriedOn version (records ++ records_in file) files

-- a log, files that carry it on one after the other, the last of them, and the records of all
pub record AreFiles (version : Version) (log : List ℕ) (files : List File) (newest : File)
    (records : List Record) : Type 0 where
  pub first : List Record
  pub rest : List ℕ
  pub front : IsFront log version first rest
  pub between : AreCarriedOn version first files
  pub carries : CarriesOn version (records_of_all first files) newest
  pub all : records ≡ records_of_all first files ++ records_in newest

-- The records of all files are those of one log of any length, and a restart of the last file is that
-- log's, but for the numbers of bytes
abbrev pub FilesAreOneRun : Type 0
FilesAreOneRun =
    (most : ℕ) (version : Version) (log : List ℕ) (files : List File) (newest : File)
    (records : List Record) (r : Restarted) → AreFiles version log files newest records
    → IsRestartUpTo most newest.bytes newest.offset r → MayFollow version empty records
    × (rest total : ℕ) × (why : Why) × (r ≡ restarted (run empty records) rest total why)

-- A restart of the last file accounts for the records of all files
abbrev pub FilesAccount : Type 0
FilesAccount =
    (most : ℕ) (version : Version) (log : List ℕ) (files : List File) (newest : File)
    (records : List Record) (r : Restarted) → AreFiles version log files newest records
    → IsRestartUpTo most newest.bytes newest.offset r → Accounts (with_aborts records) r.state

-- so does a restart if the last file is closed, and wherever a crash cuts that short: its bytes up
-- to the end of its front, and a beginning of the frames of the ABORTs of the open units
abbrev pub ClosedFilesAccount : Type 0
ClosedFilesAccount =
    (most : ℕ) (version : Version) (log : List ℕ) (files : List File) (newest : File)
    (records : List Record) (used part missing : List ℕ) (r : Restarted)
    → AreFiles version log files newest records
    → newest.bytes ≡ used ++ newest.rest
    → frames_of (last_of (start version) records) (aborts (run empty records)) ≡ part ++ missing
    → length (used ++ part) ≤ log_limit → IsRestartUpTo most (used ++ part) newest.offset r
    → Accounts (with_aborts records) r.state

-- and the lines of its report
abbrev pub FilesReportAccounts : Type 0
FilesReportAccounts =
    (most : ℕ) (version : Version) (log : List ℕ) (files : List File) (newest : File)
    (records : List Record) (text : List ℕ) (p : ℕ) → p < 2 ^ 64
    → AreFiles version log files newest records → IsReportUpTo most newest.bytes newest.offset text
    → element_lines p text + (done p (with_aborts records) + kills p (with_aborts records))
    ≡ requests p (with_aborts records)
