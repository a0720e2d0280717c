-- Where a kernel stands, what it takes there, and what it does not.
use Rattle.std.specs.Prelude.{◌≡◌, ◌≤◌, ◌<◌, ◌+◌, ◌-◌, ◌*◌, ⊤, ℕ, true, false, List, [], ◌∷◌, ◌++◌, length, Option}
use Rattle.rq_model.specs.Records.{Record, Begin, Commit, Abort, Version}
use Rattle.rq_model.specs.Spelling.{body_of, Spells}
use Rattle.rq_model.specs.Frames.{IsBodyLength, log_limit, digest, frame}
use Rattle.rq_model.specs.States.{State}
use Rattle.rq_model.specs.StateSpelling.{carried_next}
use Rattle.rq_model.specs.Machine.{is_lawful, aborts}
use Rattle.rq_model.specs.Appending.{MayFollow, FitsCheckpoint}
use Rattle.rq_record.specs.Views.{version_of}
use Rattle.rq_record.specs.Writing.{HasKind}
use Rattle.rq_record.specs.declared.record.ElemId.{ElemId}
use Rattle.rq_state.specs.Views.{id_of}
use Rattle.rq_lawful.specs.Breaks.{Breaks}
use Rattle.rq_lawful.specs.declared.rules.Rule.{Rule}
use Rattle.rq_standing.specs.Stands.{taken}
use Rattle.rq_live.specs.Starts.{Start, rules_of, base_of, file_of, state_reached, last_behind, AreBegun}
use Rattle.rq_live.specs.Starts.{checkpoint_in}
use Rattle.rq_live.specs.declared.kernel.Kernel.{Kernel}
use Rattle.rq_live.specs.declared.kernel.NotDone.{NotDone}
use Rattle.rq_live.specs.declared.kernel.NotDone.TheVariants.{Unlawful, Full, Large, Ended, Spent}

-- by these rules, the records are lawful and lead to the state, these are the last bytes and the length
-- of their file, and that is the bytes w and those that are pending
pub record HasDone (from : Start) (rs : List Record) (w : List ℕ) (own : Version)
    (s : State) (end : List ℕ) (size : ℕ) (pending : List ℕ) : Type 0 where
  pub rules : own ≡ rules_of from
  pub begun : AreBegun from rs
  pub may : MayFollow (rules_of from) (base_of from) rs
  pub short : length (file_of from rs) ≤ log_limit
  pub state : s ≡ state_reached from rs
  pub last : end ≡ last_behind from rs
  pub len : size ≡ length (file_of from rs)
  pub bytes : file_of from rs ≡ w ++ pending

-- it stands behind these lawful records, of whose file the bytes w were given out, and the others are
-- pending
abbrev pub IsKernelBehind : Start → List Record → List ℕ → Kernel → Type 0
IsKernelBehind from rs w kernel =
    HasDone from rs w (version_of kernel.version) kernel.machine kernel.last kernel.len kernel.pending.items

-- no frame is pending, and it stands within so many bytes
abbrev pub StandsWithin : Kernel → ℕ → Type 0
StandsWithin kernel len = (kernel.pending.items ≡ []) × (kernel.len ≤ len)

-- these bytes are the body of the record
pub record IsBodyOf (r : Record) (body : List ℕ) : Type 0 where
  pub bytes : body ≡ body_of r
  pub fits : IsBodyLength (length body)
  pub spells : (version : Version) → HasKind version r → Spells version r (body_of r)

-- the frame of the body was added to those of a that are pending
pub record FramesBody (a b : Kernel) (body : List ℕ) : Type 0 where
  pub last : b.last ≡ digest a.last body
  pub len : b.len ≡ a.len + (36 + length body)
  pub bytes : b.pending.items ≡ a.pending.items ++ frame a.last body

-- how many units of so many are open behind the record
abbrev pub open_behind : ℕ → Record → ℕ
open_behind count (Begin unit) = count + 1
open_behind count (Commit unit) = count - 1
open_behind count (Abort unit) = count - 1
open_behind count r = count

-- the bytes of the file, and of the frames that end so many units
abbrev pub length_with_ends : Start → List Record → ℕ → ℕ
length_with_ends from rs count = length (file_of from rs) + 45 * count

-- There is room for the end of each unit that is open behind the records
abbrev pub HasRoomForEnds : Start → List Record → Type 0
HasRoomForEnds from rs = length_with_ends from rs (length (state_reached from rs).units) ≤ log_limit

-- behind these records it is lawful, but there is no room for it and for the end of each unit that is
-- open then
pub record HasNoRoom (from : Start) (rs : List Record) (r : Record) : Type 0 where
  pub lawful : is_lawful (rules_of from) (state_reached from rs) r ≡ true
  pub long : log_limit < length_with_ends from (rs ++ r ∷ []) (open_behind (length (state_reached from rs).units) r)

-- behind these records it is not lawful, and breaks this rule
pub record BreaksThere (from : Start) (rs : List Record) (r : Record) (rule : Rule) : Type 0 where
  pub unlawful : is_lawful (rules_of from) (state_reached from rs) r ≡ false
  pub breaks : Breaks (rules_of from) (state_reached from rs) r rule

-- behind these records it is lawful, takes this element, and leaves room
pub record IsTaken (from : Start) (rs : List Record) (r : Record) (id : Option ElemId) : Type 0 where
  pub lawful : is_lawful (rules_of from) (state_reached from rs) r ≡ true
  pub element : id_of id ≡ taken (state_reached from rs) r
  pub room : HasRoomForEnds from (rs ++ r ∷ [])

-- wherever a stood, the record is taken, and b stands behind it
abbrev pub KernelTakes : Kernel → Kernel → Record → Option ElemId → Type 0
KernelTakes a b r id = (from : Start) (rs : List Record) (w : List ℕ) → IsKernelBehind from rs w a
    → IsKernelBehind from (rs ++ r ∷ []) w b × IsTaken from rs r id

-- wherever a stood with room for the end of each open unit, b stands behind all of these records too,
-- and has that room
abbrev pub KernelTakesEach : Kernel → Kernel → List Record → Type 0
KernelTakesEach a b xs = (from : Start) (rs : List Record) (w : List ℕ) → IsKernelBehind from rs w a
    → HasRoomForEnds from rs → IsKernelBehind from (rs ++ xs) w b × HasRoomForEnds from (rs ++ xs)

-- and these are the ABORTs of the units that were open there
abbrev pub KernelAborts : Kernel → Kernel → Type 0
KernelAborts a b = (from : Start) (rs : List Record) (w : List ℕ) → IsKernelBehind from rs w a
    → HasRoomForEnds from rs → IsKernelBehind from (rs ++ aborts (state_reached from rs)) w b
    × HasRoomForEnds from (rs ++ aborts (state_reached from rs))

-- wherever a stood, b stands
abbrev pub KernelStays : Kernel → Kernel → Type 0
KernelStays a b = (from : Start) (rs : List Record) (w : List ℕ) → IsKernelBehind from rs w a
    → IsKernelBehind from rs w b

-- why a kernel does not take the record behind these
abbrev pub IsWhyNotTaken : Start → List Record → Record → NotDone → Type 0
IsWhyNotTaken from rs r (Unlawful rule) = BreaksThere from rs r rule
IsWhyNotTaken from rs r Full = HasNoRoom from rs r
IsWhyNotTaken from rs r Large = FitsCheckpoint (state_reached from rs) → ⊥
IsWhyNotTaken from rs r Ended = carried_next < (state_reached from rs).next
IsWhyNotTaken from rs r Spent = ⊤

-- wherever it stood, this is why it does not take the record
abbrev pub KernelRefuses : Kernel → Record → NotDone → Type 0
KernelRefuses a r why = (from : Start) (rs : List Record) (w : List ℕ) → IsKernelBehind from rs w a
    → IsWhyNotTaken from rs r why

-- and what b is then
abbrev pub KernelStops : Kernel → Kernel → Record → NotDone → Type 0
KernelStops a b r Spent = ⊤
KernelStops a b r Large = ⊥
KernelStops a b r Ended = ⊥
KernelStops a b r why = KernelStays a b × KernelRefuses a r why

-- wherever a stood, a checkpoint of the state there is taken, and b stands behind it
abbrev pub KernelMarks : Kernel → Kernel → Type 0
KernelMarks a b = (from : Start) (rs : List Record) (w : List ℕ) → IsKernelBehind from rs w a
    → IsKernelBehind from (rs ++ checkpoint_in (state_reached from rs) ∷ []) w b
    × FitsCheckpoint (state_reached from rs) × HasRoomForEnds from (rs ++ checkpoint_in (state_reached from rs) ∷ [])
    × ((state_reached from rs).next ≤ carried_next)

-- why no checkpoint is taken, and what b is then
abbrev pub KernelStopsMark : Kernel → Kernel → NotDone → Type 0
KernelStopsMark a b Spent = ⊤
KernelStopsMark a b (Unlawful rule) = (from : Start) (rs : List Record) (w : List ℕ)
    → IsKernelBehind from rs w a → ⊥
KernelStopsMark a b why = KernelStays a b × KernelRefuses a (checkpoint_in a.machine) why
