-- A log from a checkpoint on, what a crash leaves of it as it grows, and how it is carried on in
-- another file: after a header of its own and the 32 bytes that link the files.
use Rattle.std.specs.Prelude.{◌≡◌, ◌<◌, ◌≤◌, ◌^◌, ℕ, List, [], ◌∷◌, ◌++◌, length, take, drop, ◌+◌, ◌-◌, codes}
use Rattle.sha2.specs.Sha256.{sha256}
use Rattle.rq_model.specs.Records.{Record, Checkpoint, Version}
use Rattle.rq_model.specs.Frames.{log_limit, frames_of, last_of, before, HasHeader, Rest, header}
use Rattle.rq_model.specs.Frames.{start, version_byte, Whole}
use Rattle.rq_model.specs.States.{State, empty}
use Rattle.rq_model.specs.Machine.{run}
use Rattle.rq_model.specs.StateSpelling.{SpellsUpTo, state_bytes, log_next, carried_next}
use Rattle.rq_model.specs.Fronts.{IsLongest, IsFront, Ends, restarted, Restarted, IsRestart}
use Rattle.rq_model.specs.Checkpoints.{IsCheckpointAt, TrueAt, IsRestartUpTo, IsReportUpTo}
use Rattle.rq_model.specs.Appending.{MayFollow, AreWhole, IsCleanEnd, FitsCheckpoint}

-- The front of b from the checkpoint at an offset: the state that it spells, whose next record number
-- is at most this, the records after it, and the bytes after these
pub record IsFrontUpTo (most : ℕ) (b : List ℕ) (offset : ℕ) (version : Version) (s : State)
    (kept : List ℕ) (after : List Record) (rest : List ℕ) : Type 0 where
  pub short : length b ≤ log_limit
  pub header : HasHeader version b
  pub checkpoint : IsCheckpointAt b offset kept
  pub spells : SpellsUpTo most version s kept
  pub front : IsLongest version s (before offset b) (drop offset b) (Checkpoint kept ∷ after) rest

-- that of a carried file that is read as the log b, and its restart and report
abbrev pub IsCarriedFront : List ℕ → ℕ → Version → State → List ℕ → List Record → List ℕ → Type 0
IsCarriedFront b offset version s kept after rest =
    IsFrontUpTo carried_next b offset version s kept after rest

abbrev pub IsCarriedRestart : List ℕ → ℕ → Restarted → Type 0
IsCarriedRestart b offset r = IsRestartUpTo carried_next b offset r

abbrev pub IsCarriedReport : List ℕ → ℕ → List ℕ → Type 0
IsCarriedReport b offset text = IsReportUpTo carried_next b offset text

-- What is so up to a number is so up to a greater one
pub record GreaterIsWider : Type 0 where
  pub spells : (most more : ℕ) (version : Version) (s : State) (kept : List ℕ) → most ≤ more
      → SpellsUpTo most version s kept → SpellsUpTo more version s kept
  pub front : (most more : ℕ) (b : List ℕ) (offset : ℕ) (version : Version) (s : State)
      (kept : List ℕ) (after : List Record) (rest : List ℕ) → most ≤ more
      → IsFrontUpTo most b offset version s kept after rest
      → IsFrontUpTo more b offset version s kept after rest
  pub restart : (most more : ℕ) (b : List ℕ) (offset : ℕ) (r : Restarted) → most ≤ more
      → IsRestartUpTo most b offset r → IsRestartUpTo more b offset r

-- A true checkpoint has one, and it is the later part of the whole front
abbrev pub TrueHasFront : Type 0
TrueHasFront = (b : List ℕ) (offset : ℕ) → TrueAt b offset →
    (version : Version) × (records after : List Record) × (kept rest : List ℕ)
    × IsFront b version (records ++ Checkpoint kept ∷ after) rest
    × IsFrontUpTo log_next b offset version (run empty records) kept after rest

-- what a crash leaves if records were being appended to such a front
pub record IsLeftAt (most : ℕ) (b : List ℕ) (offset : ℕ) (version : Version) (s : State)
    (kept : List ℕ) (after xs : List Record) (part : List ℕ) : Type 0 where
  pub count : ℕ
  pub rest : List ℕ
  pub why : Rest
  pub whole : AreWhole (last_of (before offset b) (Checkpoint kept ∷ after)) xs part count
  pub front : IsFrontUpTo most (b ++ part) offset version s kept (after ++ take count xs) rest
  pub clean : IsCleanEnd why
  pub restart : IsRestartUpTo most (b ++ part) offset
      (restarted (run s (Checkpoint kept ∷ (after ++ take count xs)))
      (length rest) (length (b ++ part)) (Ends why))

-- A crash while records are appended to a log that is read from a checkpoint on
abbrev pub CrashWhileCarriedGrows : Type 0
CrashWhileCarriedGrows =
    (most : ℕ) (b : List ℕ) (offset : ℕ) (version : Version) (s : State) (kept : List ℕ)
    (after xs : List Record) (part missing : List ℕ) →
    IsFrontUpTo most b offset version s kept after []
    → MayFollow version (run s (Checkpoint kept ∷ after)) xs
    → frames_of (last_of (before offset b) (Checkpoint kept ∷ after)) xs ≡ part ++ missing
    → length (b ++ part) ≤ log_limit → IsLeftAt most b offset version s kept after xs part

-- `RQLOG`, a one, a zero byte, the version
abbrev pub carried_magic : Version → List ℕ
carried_magic version = codes "RQLOG" ++ 1 ∷ 0 ∷ version_byte version ∷ []

-- the header of a carried file
abbrev pub carried_header : Version → List ℕ
carried_header version = carried_magic version ++ sha256 (carried_magic version)

abbrev pub HasCarriedHeader : Version → List ℕ → Type 0
HasCarriedHeader version b = take 40 b ≡ carried_header version

-- a carried file: its header, the 32 bytes that link it to the log before it, and frames
abbrev pub carried_file : Version → List ℕ → List ℕ → List ℕ
carried_file version link bytes = carried_header version ++ (link ++ bytes)

-- where its first frame stands
abbrev pub carried_at : ℕ
carried_at = 72

-- the log as which a carried file b is read: the header of a log stands in place of its own
abbrev pub as_log : Version → List ℕ → List ℕ
as_log version b = header version ++ drop 40 b

-- No carried file begins as a log: there is no restart of it, whole or from a checkpoint
pub record IsNoLog : Type 0 where
  pub headed : (version other : Version) (b : List ℕ) → HasCarriedHeader version b
      → HasHeader other b → ⊥
  pub restart : (version : Version) (b : List ℕ) (r : Restarted) → HasCarriedHeader version b
      → IsRestart b r → ⊥
  pub at : (most : ℕ) (version : Version) (b : List ℕ) (offset : ℕ) (r : Restarted)
      → HasCarriedHeader version b → IsRestartUpTo most b offset r → ⊥

-- It is read as a log of as many bytes, which are its own behind the header; so is what is written
-- behind it; and no other file with that header is read as that log
pub record ReadsAsLog : Type 0 where
  pub headed : (version : Version) (link bytes : List ℕ)
      → HasCarriedHeader version (carried_file version link bytes)
  pub whole : (version : Version) (link bytes : List ℕ)
      → as_log version (carried_file version link bytes) ≡ header version ++ (link ++ bytes)
  pub version : (version other : Version) (b : List ℕ) → HasCarriedHeader version b
      → HasCarriedHeader other b → version ≡ other
  pub size : (version : Version) (b : List ℕ) → HasCarriedHeader version b
      → length (as_log version b) ≡ length b
  pub behind : (version : Version) (b : List ℕ) (offset : ℕ) → HasCarriedHeader version b
      → 40 ≤ offset → drop offset (as_log version b) ≡ drop offset b
  pub more : (version : Version) (b bytes : List ℕ) → HasCarriedHeader version b
      → as_log version (b ++ bytes) ≡ as_log version b ++ bytes
  pub back : (version : Version) (b : List ℕ) → HasCarriedHeader version b
      → b ≡ carried_header version ++ drop 40 (as_log version b)

-- all bytes of b from a checkpoint on, and the 32 bytes before it, in a carried file
abbrev pub moved : Version → List ℕ → ℕ → List ℕ
moved version b offset = carried_file version (before offset b) (drop offset b)

-- the log as which it is read
abbrev pub moved_log : Version → List ℕ → ℕ → List ℕ
moved_log version b offset = as_log version (moved version b offset)

-- what a restart from the checkpoint returns there: the same, apart from the numbers of bytes
abbrev pub when_moved : ℕ → Restarted → Restarted
when_moved offset r = record r {
  used = r.used + carried_at - offset;
  total = r.total + carried_at - offset;
}

-- A checkpoint that is moved keeps its front and its restart, whatever ends the front; if it was
-- true, its restart is that of the whole log
pub record MovesOn : Type 0 where
  pub front : (most : ℕ) (b : List ℕ) (offset : ℕ) (version : Version) (s : State)
      (kept : List ℕ) (after : List Record) (rest : List ℕ)
      → IsFrontUpTo most b offset version s kept after rest
      → length (moved version b offset) ≤ log_limit
      → IsFrontUpTo most (moved_log version b offset) carried_at version s kept after rest
  pub restart : (most other : ℕ) (b : List ℕ) (offset : ℕ) (version : Version) (s : State)
      (kept : List ℕ) (after : List Record) (rest : List ℕ) (r : Restarted)
      → IsFrontUpTo most b offset version s kept after rest
      → length (moved version b offset) ≤ log_limit → IsRestartUpTo other b offset r
      → IsRestartUpTo most (moved_log version b offset) carried_at (when_moved offset r)
  pub truth : (most : ℕ) (b : List ℕ) (offset : ℕ) (version : Version) (s : State)
      (kept : List ℕ) (after : List Record) (rest : List ℕ) (r : Restarted)
      → IsFrontUpTo most b offset version s kept after rest
      → length (moved version b offset) ≤ log_limit → TrueAt b offset → IsRestart b r
      → IsRestartUpTo most (moved_log version b offset) carried_at (when_moved offset r)

-- a carried file of a checkpoint of the state, chained to the 32 bytes p
abbrev pub begun_anew : Version → List ℕ → State → List ℕ
begun_anew version p s =
    carried_file version p (frames_of p (Checkpoint (state_bytes s) ∷ []))

-- From there a restart begins with the state, and all is whole. The checkpoint was in no log
-- before: the old one may be full
abbrev pub StartsAnew : Type 0
StartsAnew =
    (most : ℕ) (version : Version) (p : List ℕ) (s : State) (log : List ℕ) → length p ≡ 32
    → SpellsUpTo most version s (state_bytes s) → FitsCheckpoint s
    → length (begun_anew version p s) ≤ log_limit
    → log ≡ as_log version (begun_anew version p s)
    → IsFrontUpTo most log carried_at version s (state_bytes s) [] []
    × (before carried_at log ≡ p)
    × IsRestartUpTo most log carried_at (restarted (run s (Checkpoint (state_bytes s) ∷ [])) 0
    (length (begun_anew version p s)) (Ends Whole))

-- So the state after any front goes on: its open units, elements, registrants and numbers, and the
-- chain of digests
abbrev pub FrontGoesOn : Type 0
FrontGoesOn =
    (most : ℕ) (b : List ℕ) (version : Version) (records : List Record) (rest : List ℕ) →
    log_next ≤ most → IsFront b version records rest → FitsCheckpoint (run empty records)
    → length (begun_anew version (last_of (start version) records) (run empty records))
    ≤ log_limit
    → IsFrontUpTo most (as_log version
    (begun_anew version (last_of (start version) records) (run empty records)))
    carried_at version (run empty records) (state_bytes (run empty records)) [] []

-- A later checkpoint that spells the state before it says the same, also if no log begins there
abbrev pub LaterSaysTheSame : Type 0
LaterSaysTheSame =
    (most : ℕ) (b : List ℕ) (offset : ℕ) (version : Version) (s : State) (kept : List ℕ)
    (earlier : List Record) (again : List ℕ) (after : List Record) (rest : List ℕ) (r : Restarted) →
    most < 2 ^ 64 → IsFrontUpTo most b offset version s kept (earlier ++ Checkpoint again ∷ after) rest
    → again ≡ state_bytes (run s (Checkpoint kept ∷ earlier))
    → (run s (Checkpoint kept ∷ earlier)).next ≤ most → IsRestartUpTo most b offset r
    → IsFrontUpTo most b (offset + length (frames_of (before offset b) (Checkpoint kept ∷ earlier)))
    version (run s (Checkpoint kept ∷ earlier)) again after rest
    × IsRestartUpTo most b
    (offset + length (frames_of (before offset b) (Checkpoint kept ∷ earlier))) r

-- Files join: let the link in b, a carried file that is read as a log, be the last 32 bytes of records
-- that a log may begin with, and let the checkpoint spell their state. Then the front there is that
-- of all records in one log of any length, and so is the state after it
abbrev pub FilesJoin : Type 0
FilesJoin =
    (most other : ℕ) (b : List ℕ) (offset : ℕ) (version : Version) (s : State) (kept : List ℕ)
    (records after : List Record) (rest : List ℕ) → MayFollow version empty records
    → IsFrontUpTo most b offset version s kept after rest
    → before offset b ≡ last_of (start version) records
    → SpellsUpTo other version (run empty records) kept
    → IsLongest version empty (start version) (frames_of (start version) records ++ drop offset b)
    (records ++ Checkpoint kept ∷ after) rest
    × (run s (Checkpoint kept ∷ after) ≡ run empty (records ++ Checkpoint kept ∷ after))

-- So a carried file that was begun anew after a front joins it, whatever was written there since
abbrev pub AnewJoins : Type 0
AnewJoins =
    (most : ℕ) (b new more : List ℕ) (version : Version) (records : List Record) (rest : List ℕ)
    (s : State) (kept : List ℕ) (after : List Record) (left : List ℕ) →
    IsFront b version records rest → FitsCheckpoint (run empty records)
    → new ≡ begun_anew version (last_of (start version) records) (run empty records) ++ more
    → IsFrontUpTo most (as_log version new) carried_at version s kept after left
    → IsLongest version empty (start version)
    (frames_of (start version) records ++ drop carried_at (as_log version new))
    (records ++ Checkpoint kept ∷ after) left
    × (run s (Checkpoint kept ∷ after) ≡ run empty (records ++ Checkpoint kept ∷ after))
