-- What is kept: the contents of a kept name, and where the bytes of a payload and of a checkpoint
-- lie.
use Rattle.std.specs.Prelude.{◌≡◌, ℕ, ◌≤◌, List, length, take, IsTrue, ⊤, ◌+◌, slice_range}
use Rattle.std.specs.Arc.{arc_slice_items}
use Rattle.rq_model.specs.Spelling.{is_name}
use Rattle.rq_record.specs.declared.kept_name.Form.{Form}
use Rattle.rq_record.specs.declared.kept_name.Form.TheVariants.{Short, Long}
use Rattle.rq_record.specs.declared.kept_payload.Bytes.{Bytes}
use Rattle.rq_record.specs.declared.kept_payload.Bytes.TheVariants.{Inline, Part}
use Rattle.rq_record.specs.declared.check_bytes.Kept.{Kept}
use Rattle.rq_record.specs.declared.check_bytes.Kept.TheVariants as check

abbrev pub name_in : Form → List ℕ
name_in (Short len bytes) = take len bytes
name_in (Long name) = name.value

-- the array of a short name holds it
abbrev pub IsKept : Form → Type 0
IsKept (Short len bytes) = (length bytes ≡ 14) × (len ≤ 14) × IsTrue (is_name (take len bytes))
IsKept (Long name) = ⊤

-- the first of an array, or a part of what is shared
abbrev pub bytes_of : Bytes → List ℕ
bytes_of (Inline array len) = take len array
bytes_of (Part whole start len) = slice_range (arc_slice_items whole) start (start + len)

-- no more than the array has; the part is inside the whole, and no more than a payload may have
abbrev pub FitsPayload : Bytes → Type 0
FitsPayload (Inline array len) = len ≤ 22
FitsPayload (Part whole start len) = (start + len ≤ length (arc_slice_items whole)) × (len ≤ 65535)

-- its own, or a part of what is shared
abbrev pub check_bytes_of : Kept → List ℕ
check_bytes_of (check.Own bytes) = bytes.items
check_bytes_of (check.Part whole start len) = slice_range (arc_slice_items whole) start (start + len)

-- no more than a checkpoint may have; the part is inside the whole
abbrev pub FitsCheck : Kept → Type 0
FitsCheck (check.Own bytes) = length bytes.items ≤ 268435455
FitsCheck (check.Part whole start len) = (start + len ≤ length (arc_slice_items whole))
    × (len ≤ 268435455)
