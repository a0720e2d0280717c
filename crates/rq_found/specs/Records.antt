-- The frames, records and registrants of a log as they are found: a walk over frames by their lengths;
-- a record's kind, unit and queue, and how many queues are defined behind it; what a registrant did.
use Rattle.std.specs.Prelude.{◌≡◌, ℕ, ◌+◌, ◌<◌, ◌≤◌, ◌==◌, min, if◌then◌else◌, List, [], ◌∷◌, length}
use Rattle.std.specs.Prelude.{drop, take, codes, Option, Some, None, option_map}
use Rattle.rq_model.specs.Frames.{stated, body_in, HasHeader}
use Rattle.rq_model.specs.Records.{Version, Record, Define, Register, Deregister, Begin, Enqueue, Dequeue}
use Rattle.rq_model.specs.Records.{Commit, Abort, Checkpoint, Kill}
use Rattle.rq_model.specs.Reports.{kind_text}
use Rattle.rq_model.specs.StateSpelling.{SpellsCarried}
use Rattle.rq_model.specs.States.{Last, Registrant, State}
use Rattle.rq_found.specs.declared.frames.Placed.{Placed}
use Rattle.rq_found.specs.declared.frames.PlacedFrames.{PlacedFrames}
use Rattle.rq_found.specs.declared.registrants.LastShown.{LastShown}
use Rattle.rq_found.specs.declared.registrants.RegistrantShown.{RegistrantShown}

-- where the first frame of a front stands: behind the header, or the checkpoint that it begins with
abbrev pub front_at : Option ℕ → ℕ
front_at None = 40
front_at (Some at) = at

-- the state that the bytes spell in a carried file of the version that the header of b names
abbrev pub SpelledIn : List ℕ → List ℕ → State → Type 0
SpelledIn b kept s = (version : Version) × HasHeader version b × SpellsCarried version s kept

-- they are the frames of the first `used` bytes of b, from an offset on; the first has the number
abbrev pub StandFrom : List ℕ → ℕ → ℕ → ℕ → PlacedFrames → Type 0
StandFrom b offset number used frames = (used ≤ length b → frames.rest.now ≡ drop offset (take used b))
    × (frames.number ≡ number) × (frames.offset ≡ offset)

-- the frame at the front of what is left, and what stands behind it; none where there is none
abbrev pub WalksOn : PlacedFrames → Option Placed → PlacedFrames → Type 0
WalksOn old None new = length old.rest.now < 36 + stated old.rest.now
WalksOn old (Some placed) new = (36 + stated old.rest.now ≤ length old.rest.now)
    × (placed.body.now ≡ body_in old.rest.now)
    × (new.rest.now ≡ drop (36 + stated old.rest.now) old.rest.now)
    × (placed.number ≡ old.number)
    × (new.number ≡ min (old.number + 1) 18446744073709551615)
    × (placed.offset ≡ old.offset)

-- the word for the kind of a record
abbrev pub kind_word : Record → List ℕ
kind_word (Define limit error name) = codes "define"
kind_word (Register queue name) = codes "register"
kind_word (Deregister queue name) = codes "deregister"
kind_word (Begin unit) = codes "begin"
kind_word (Enqueue unit queue priority by payload) = codes "enqueue"
kind_word (Dequeue unit queue by) = codes "dequeue"
kind_word (Commit unit) = codes "commit"
kind_word (Abort unit) = codes "abort"
kind_word (Checkpoint bytes) = codes "checkpoint"
kind_word (Kill queue element) = codes "kill"

-- the unit that a record names, if it names one
abbrev pub unit_shown : Record → Option ℕ
unit_shown (Begin unit) = Some unit
unit_shown (Enqueue unit queue priority by payload) = Some unit
unit_shown (Dequeue unit queue by) = Some unit
unit_shown (Commit unit) = Some unit
unit_shown (Abort unit) = Some unit
unit_shown r = None

-- the queue that a record names: none of one that defines a queue
abbrev pub queue_shown : Record → Option ℕ
queue_shown (Register queue name) = Some queue
queue_shown (Deregister queue name) = Some queue
queue_shown (Enqueue unit queue priority by payload) = Some queue
queue_shown (Dequeue unit queue by) = Some queue
queue_shown (Kill queue element) = Some queue
queue_shown r = None

-- the queue that a record defines or names, if so many are defined before it
abbrev pub queue_about : ℕ → Record → Option ℕ
queue_about queues (Define limit error name) = Some queues
queue_about queues r = queue_shown r

-- how many queues are defined behind a body, of which so many are before it: one more if its first
-- byte is that of a definition
abbrev pub queues_behind : ℕ → List ℕ → ℕ
queues_behind queues [] = queues
queues_behind queues (kind ∷ fields) = if kind == 1 then min (queues + 1) 4294967295 else queues

-- what is said of a registrant's last operation: its kind, its tag and its element
abbrev pub last_shown : Last → List ℕ × ℕ × Option ℕ
last_shown l = (kind_text l.kind, l.tag, l.element)

-- the same of what is shown
abbrev pub last_told : LastShown → List ℕ × ℕ × Option ℕ
last_told l = (l.kind.now, l.tag, l.element)

-- what is said of a registrant: its name, and its last operation, if it did any
abbrev pub registrant_entry : Registrant → List ℕ × Option (List ℕ × ℕ × Option ℕ)
registrant_entry r = (r.name, option_map last_shown r.last)

-- the same of what is shown
abbrev pub registrant_told : RegistrantShown → List ℕ × Option (List ℕ × ℕ × Option ℕ)
registrant_told r = (r.name.now, option_map last_told r.last)
