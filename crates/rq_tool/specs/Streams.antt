-- What a call that reads and writes leaves of its reader and its writer.
use Rattle.std.specs.Prelude.{◌≡◌, ℕ, ◌+◌, ◌<◌, ◌≤◌, ◌⊎◌, ⊤, List, length, Option, Some, None, Result, Ok, Err}
use Rattle.std.specs.Global.{Vec}
use Rattle.std.specs.Io.KnownBytes.{Appends, Consumes, IsAtEnd, Keeps}
use Rattle.rq_model.specs.Frames.{log_limit}
use Rattle.rq_front.specs.Chains.{IsHeaded}
use Rattle.rq_record.specs.declared.fault.Fault.{Fault}
use Rattle.rq_record.specs.declared.fault.Fault.TheVariants.{NotALog, ReadFailed, Resources, TooLong, WriteFailed}
use Rattle.rq_report.specs.Streams.{AppendsFront}

-- the reader's count of faults grows by one exactly where the answer is that a read failed
abbrev pub ReadFaults : {A : Type 0} → ℕ → ℕ → Result A Fault → Type 0
ReadFaults before after (Ok x) = after ≡ before
ReadFaults before after (Err ReadFailed) = after ≡ before + 1
ReadFaults before after (Err e) = after ≡ before

-- the writer's count of faults grows by one exactly where the answer is that a write failed
abbrev pub WriteFaults : {A : Type 0} → ℕ → ℕ → Result A Fault → Type 0
WriteFaults before after (Ok x) = after ≡ before
WriteFaults before after (Err WriteFailed) = after ≡ before + 1
WriteFaults before after (Err e) = after ≡ before

-- the bytes that a reader still has to give, if it tells them, and else any
abbrev pub IsGiven : Option (List ℕ) → List ℕ → Type 0
IsGiven None b = ⊤
IsGiven (Some told) b = b ≡ told

-- the bytes b of a file, which are no more than a log has; or one of these reasons why they are
-- refused, or that a read failed
abbrev pub ReadsFile : (List ℕ → Fault → Type 0) → List ℕ → Result (Vec ℕ) Fault → Type 0
ReadsFile IsWhy b (Ok bytes) = (bytes.items ≡ b) × (length b ≤ log_limit)
ReadsFile IsWhy b (Err ReadFailed) = ⊤
ReadsFile IsWhy b (Err e) = IsWhy b e

-- why a script is not read: it is too long; or memory is refused
abbrev pub IsOverlong : List ℕ → Fault → Type 0
IsOverlong b TooLong = log_limit < length b
IsOverlong b Resources = ⊤
IsOverlong b e = ⊥

-- the bytes are all that the reader still had to give, or one more than a log has
abbrev pub ReadsAll : Option (List ℕ) → Option (List ℕ) → List ℕ → Type 0
ReadsAll old new bytes = Consumes old new bytes × (length bytes ≤ log_limit + 1)
    × (IsAtEnd new ⊎ (length bytes ≡ log_limit + 1))

-- some bytes are taken
abbrev pub TakesSome : Option (List ℕ) → Option (List ℕ) → Type 0
TakesSome old new = (bytes : List ℕ) × Consumes old new bytes

-- whatever a reader had given the bytes `before` of, it has given the bytes `after` of
abbrev pub ReadsOn : Option (List ℕ) → List ℕ → Option (List ℕ) → List ℕ → Type 0
ReadsOn old before new after = (origin : Option (List ℕ)) →
    Consumes origin old before → Consumes origin new after

-- bytes are taken, and with those before there are so many
abbrev pub CountsTaken : Option (List ℕ) → Option (List ℕ) → ℕ → ℕ → Type 0
CountsTaken old new before total = (more : List ℕ) × Consumes old new more
    × (before + length more ≡ total)

-- why a reader's bytes are refused unkept: they are too long for a log, or begin with no header; or
-- a read or memory was refused
abbrev pub IsUnread : Option (List ℕ) → Option (List ℕ) → Fault → Type 0
IsUnread old new TooLong = (bytes : List ℕ) × ReadsAll old new bytes × (log_limit < length bytes)
IsUnread old new NotALog = (bytes : List ℕ) × ReadsAll old new bytes
    × (length bytes ≤ log_limit) × (IsHeaded bytes → ⊥)
IsUnread old new ReadFailed = TakesSome old new
IsUnread old new Resources = TakesSome old new
IsUnread old new e = ⊥

-- what is taken of a reader: all up to its end, or 4,294,967,296 bytes; but some where a read or
-- memory was refused
abbrev pub TakesInput : {A : Type 0} → Option (List ℕ) → Option (List ℕ) → Result A Fault → Type 0
TakesInput old new (Err ReadFailed) = TakesSome old new
TakesInput old new (Err Resources) = TakesSome old new
TakesInput old new result = (bytes : List ℕ) × ReadsAll old new bytes

abbrev pub IsOneOf : Fault → Fault → Fault → Type 0
IsOneOf a b e = (e ≡ a) ⊎ (e ≡ b)

-- What is written of what is made of a file.

-- where the writer held the bytes `old` before and holds `new` afterwards: one of these texts is
-- written, and nothing else; or nothing is, since there is none, for one of these reasons, or since
-- a read failed; or a beginning of one is, and then a write failed
abbrev pub Writes : (List ℕ → Type 0) → (Fault → Type 0) → Option (List ℕ)
    → Option (List ℕ) → Result (Unit {0}) Fault → Type 0
Writes IsText IsWhy old new (Ok done) = (text : List ℕ) × IsText text × Appends old new text
Writes IsText IsWhy old new (Err WriteFailed) =
    (text : List ℕ) × IsText text × AppendsFront old new text
Writes IsText IsWhy old new (Err ReadFailed) = Keeps old new
Writes IsText IsWhy old new (Err e) = IsWhy e × Keeps old new

-- the same of a call that reads nothing: where a write failed, the writer's count of faults grew by
-- one, and else it stayed
abbrev pub PutsText : (List ℕ → Type 0) → (Fault → Type 0) → ℕ → ℕ → Option (List ℕ)
    → Option (List ℕ) → Result (Unit {0}) Fault → Type 0
PutsText IsText IsWhy before after old new (Ok done) =
    (after ≡ before) × ((text : List ℕ) × IsText text × Appends old new text)
PutsText IsText IsWhy before after old new (Err WriteFailed) =
    (after ≡ before + 1) × ((text : List ℕ) × IsText text × AppendsFront old new text)
PutsText IsText IsWhy before after old new (Err ReadFailed) = ⊥
PutsText IsText IsWhy before after old new (Err e) = (after ≡ before) × (IsWhy e × Keeps old new)
