-- What it takes to pass off another log by the same last 32 bytes: two different messages with one
-- SHA-256. Nothing is assumed of SHA-256.
use Rattle.std.specs.Prelude.{◌≡◌, ◌⊎◌, ℕ, List, ◌∷◌, ◌++◌, length}
use Rattle.std.specs.List.{AllByRecursion}
use Rattle.std.specs.Int.{w32, to_be_bytes}
use Rattle.sha2.specs.Sha256.{sha256}
use Rattle.rq_model.specs.Records.{Record, Version}
use Rattle.rq_model.specs.Spelling.{IsRecord}
use Rattle.rq_model.specs.Frames.{magic, start, last, bodies_of, last_of, log_of, before}
use Rattle.rq_model.specs.Fronts.{IsFront}
use Rattle.rq_model.specs.AllFiles.{File, AreFiles}

-- what is hashed for the frame of a body: the 32 bytes p before it, the length and the body
abbrev pub message : List ℕ → List ℕ → List ℕ
message p body = p ++ (to_be_bytes w32 (length body) ++ body)

-- m is hashed for one of the frames of these bodies, after the 32 bytes p
abbrev pub IsHashed : List ℕ → List (List ℕ) → List ℕ → Type 0
IsHashed p bodies m = (earlier later : List (List ℕ)) × (body : List ℕ)
    × (bodies ≡ earlier ++ body ∷ later) × (m ≡ message (last p earlier) body)

-- m is hashed for the header of a log of these records, or for one of their frames
abbrev pub IsHashedIn : Version → List Record → List ℕ → Type 0
IsHashedIn version records m = (m ≡ magic version) ⊎ IsHashed (start version) (bodies_of records) m

-- two different messages, one of each kind, have one SHA-256
pub record Collision (Is IsOther : List ℕ → Type 0) : Type 0 where
  pub one : List ℕ
  pub other : List ℕ
  pub is : Is one
  pub is_other : IsOther other
  pub differ : one ≡ other → ⊥
  pub same : sha256 one ≡ sha256 other

-- the frames of b, after the 32 bytes q, are the later part of those of a, after the 32 bytes p
abbrev pub IsLaterPart : List ℕ → List (List ℕ) → List ℕ → List (List ℕ) → Type 0
IsLaterPart p a q b = (earlier : List (List ℕ)) × (a ≡ earlier ++ b) × (last p earlier ≡ q)

-- Frames of any bodies, after any 32 bytes, that end with the same 32 bytes: some are the later
-- part of the others, or here is a collision
abbrev pub FramesWithOneEnd : Type 0
FramesWithOneEnd = (p q : List ℕ) (a b : List (List ℕ)) → length p ≡ 32 → length q ≡ 32
    → last p a ≡ last q b
    → Collision (IsHashed p a) (IsHashed q b) ⊎ (IsLaterPart p a q b ⊎ IsLaterPart q b p a)

-- Records of logs, of one length or not, that end with the same 32 bytes are the same, in the same
-- version, or here is a collision
abbrev pub RecordsWithOneEnd : Type 0
RecordsWithOneEnd = (v w : Version) (a b : List Record) → AllByRecursion (IsRecord v) a
    → AllByRecursion (IsRecord w) b → last_of (start v) a ≡ last_of (start w) b
    → Collision (IsHashedIn v a) (IsHashedIn w b) ⊎ ((v ≡ w) × (a ≡ b))

-- So two logs whose fronts differ, and end with the same 32 bytes, show one
abbrev pub TamperingShows : Type 0
TamperingShows =
    (b c : List ℕ) (v w : Version) (records others : List Record) (rest left : List ℕ) →
    IsFront b v records rest → IsFront c w others left
    → last_of (start v) records ≡ last_of (start w) others
    → (log_of v records ≡ log_of w others → ⊥)
    → Collision (IsHashedIn v records) (IsHashedIn w others)

-- and so do two old logs with other records that one file is linked to
abbrev pub LinkWitnesses : Type 0
LinkWitnesses =
    (b c new : List ℕ) (offset : ℕ) (v w : Version) (records others : List Record)
    (rest left : List ℕ) → IsFront b v records rest → IsFront c w others left
    → before offset new ≡ last_of (start v) records → before offset new ≡ last_of (start w) others
    → Collision (IsHashedIn v records) (IsHashedIn w others) ⊎ ((v ≡ w) × (records ≡ others))

-- The last 32 bytes of the last of several files are those of the records of all: who shows other
-- files with the same end shows a collision
abbrev pub FilesWithOneEnd : Type 0
FilesWithOneEnd =
    (v w : Version) (log old : List ℕ) (files others : List File) (newest other : File)
    (a b : List Record) → AreFiles v log files newest a → AreFiles w old others other b
    → last_of (start v) a ≡ last_of (start w) b
    → Collision (IsHashedIn v a) (IsHashedIn w b) ⊎ ((v ≡ w) × (a ≡ b))
