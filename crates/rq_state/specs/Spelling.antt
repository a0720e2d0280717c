-- What spelling a state and reading its spelling return.
use Rattle.std.specs.Prelude.{◌≡◌, ◌≤◌, ◌<◌, ⊤, ℕ, List, length, Result, Ok, Err}
use Rattle.std.specs.Global.{Vec}
use Rattle.rq_model.specs.Records.{Version}
use Rattle.rq_model.specs.States.{State}
use Rattle.rq_model.specs.StateSpelling.{state_bytes, Fits, SpellsUpTo, log_next}
use Rattle.rq_record.specs.declared.fault.Fault.{Fault}
use Rattle.rq_record.specs.declared.fault.Fault.TheVariants.{Resources, TooLarge, BadCheckpoint}

-- The text, or it would pass its bound, or memory ran out
abbrev pub IsWritten : List ℕ → Result (Vec ℕ) Fault → Type 0
IsWritten text (Ok v) = (v.items ≡ text) × (length v.items ≤ 268435455)
IsWritten text (Err TooLarge) = 268435455 < length text
IsWritten text (Err Resources) = ⊤
IsWritten text (Err e) = ⊥

-- The bytes of the state, or why there are none
abbrev pub Spelled : State → Result (Vec ℕ) Fault → Type 0
Spelled s result = IsWritten (state_bytes s) result

-- The state that the bytes spell, whose next record number is at most this, in a log of the version,
-- or they spell none. Memory is asked for only if all bytes have the form of a state: they spell
-- numbers and members in their widths, whether or not these are a state's
abbrev pub ReadsUpTo : ℕ → Version → List ℕ → Result State Fault → Type 0
ReadsUpTo most version bytes (Ok s) = SpellsUpTo most version s bytes
ReadsUpTo most version bytes (Err BadCheckpoint) = (s : State) → SpellsUpTo most version s bytes → ⊥
ReadsUpTo most version bytes (Err Resources) = (s : State) × Fits s × (bytes ≡ state_bytes s)
ReadsUpTo most version bytes (Err e) = ⊥

-- that of a log
abbrev pub ReadsState : Version → List ℕ → Result State Fault → Type 0
ReadsState version bytes result = ReadsUpTo log_next version bytes result
