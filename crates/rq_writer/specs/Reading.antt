-- Reading a line from left to right.
use Rattle.std.specs.Prelude.{◌≡◌, ℕ, ◌+◌, ◌*◌, ◌-◌, Bool, false, ◌&&◌, ◌||◌, ◌==◌, if◌then◌else◌, nat_le, nat_lt}
use Rattle.std.specs.Prelude.{List, [], ◌∷◌, length, codes, Option, Some, None, Result, Ok, Err, ⊤}
use Rattle.std.specs.List.{list_all}
use Rattle.std.specs.Str.{bytes_eq}
use Rattle.std.specs.Str.Parse.{digits_value}
use Rattle.rq_bytes.specs.Readers.{◌>>=◌}
use Rattle.rq_model.specs.Spelling.{is_name}
use Rattle.rq_record.specs.declared.fault.Fault.{Fault}
use Rattle.rq_record.specs.declared.fault.Fault.TheVariants as faults
use Rattle.rq_model.specs.Records.{By, Record, Define, Register, Deregister, Begin, Enqueue}
use Rattle.rq_model.specs.Records.{Dequeue, Commit, Abort, Checkpoint, Kill, Version, One, Two}
use Rattle.rq_writer.specs.Script.{Line, Told, Spelled, Tells}
use Rattle.rq_record.specs.Views.{record_of}
use Rattle.rq_writer.specs.declared.readers.ScriptLine as code
use Rattle.rq_writer.specs.declared.readers.ScriptLine.TheVariants as lines

-- What a function returned, seen by view, is what reading gives, unless memory ran out.
abbrev pub Fails : {Y : Type 0} → Fault → Option Y → Type 0
Fails faults.Form read = read ≡ None
Fails faults.Resources read = ⊤
Fails _ read = ⊥

abbrev pub Gives : {X Y : Type 0} → (X → Y) → Result X Fault → Option Y → Type 0
Gives view (Ok x) read = read ≡ Some (view x)
Gives view (Err e) read = Fails e read

-- what comes before the first such byte, and what after it
abbrev pub cut_at : ℕ → List ℕ → Option (List ℕ × List ℕ)
cut_at byte [] = None
cut_at byte (b ∷ bytes) = if b == byte then Some ([], bytes)
    else (cut_at byte bytes >>= λ x. Some (b ∷ x.0, x.1))

-- a field, and what comes after its space
abbrev pub field_at : List ℕ → Option (List ℕ × List ℕ)
field_at bytes = cut_at 32 bytes

abbrev pub is_digit : ℕ → Bool
is_digit b = nat_le 48 b && nat_le b 57

-- digits, and no leading zero
abbrev pub is_decimal : List ℕ → Bool
is_decimal [] = false
is_decimal (b ∷ bytes) = list_all is_digit (b ∷ bytes) && (length bytes == 0 || nat_lt 48 b)

-- a number of at most `most`
abbrev pub number_of : ℕ → List ℕ → Option ℕ
number_of most bytes = if is_decimal bytes && nat_le (digits_value 10 bytes) most
    then Some (digits_value 10 bytes) else None

unfoldable pub number_field : ℕ → List ℕ → Option (ℕ × List ℕ)
number_field most bytes = do
  field ← field_at bytes
  n ← number_of most field.0
  Some (n, field.1)

-- the number of an error queue, or none
abbrev pub error_of : List ℕ → Option ℕ
error_of bytes = if bytes_eq bytes (codes "-") then Some 4294967295 else number_of 4294967294 bytes

-- the registrant that a name and a tag give
abbrev pub by_of : List ℕ → ℕ → Option (Option By)
by_of name tag =
    if bytes_eq name (codes "-")
    then (if tag == 0 then Some None else None)
    else (if is_name name then Some (Some (record { name = name; tag = tag })) else None)

abbrev pub digit_of : ℕ → Option ℕ
digit_of b = if nat_le 48 b && nat_le b 57 then Some (b - 48)
    else if nat_le 97 b && nat_le b 102 then Some (b - 87) else None

-- the byte of two digits
abbrev pub pair_of : ℕ → ℕ → Option ℕ
pair_of high low = digit_of high >>= λ h. digit_of low >>= λ l. Some (h * 16 + l)

-- two digits a byte
abbrev pub pairs_of : List ℕ → Option (List ℕ)
pairs_of [] = Some []
pairs_of (high ∷ []) = None
pairs_of (high ∷ low ∷ rest) = pair_of high low >>= λ b. pairs_of rest >>= λ bytes. Some (b ∷ bytes)

-- at most `limit` bytes in hexadecimal, or `-` for none
abbrev pub bytes_of_hex : ℕ → List ℕ → Option (List ℕ)
bytes_of_hex limit text =
    if bytes_eq text (codes "-") then Some []
    else if length text == 0 then None
    else if nat_le (length text) (2 * limit) then pairs_of text
    else None

abbrev pub name_of : List ℕ → Option (List ℕ)
name_of bytes = if is_name bytes then Some bytes else None

unfoldable pub define_line : List ℕ → Option Record
define_line bytes = do
  word ← field_at bytes
  name ← name_of word.0
  limit ← number_field 65535 word.1
  error ← error_of limit.1
  Some (Define limit.0 error name)

-- the queue and the name that follow the word of a registration or of its end
unfoldable pub registration_at : List ℕ → Option (ℕ × List ℕ)
registration_at bytes = do
  queue ← number_field 4294967295 bytes
  name ← name_of queue.1
  Some (queue.0, name)

-- the record of this kind that they tell
abbrev pub registration_line : (ℕ → List ℕ → Record) → List ℕ → Option Record
registration_line kind bytes = registration_at bytes >>= λ x. Some (kind x.0 x.1)

abbrev pub unit_number : List ℕ → Option ℕ
unit_number bytes = number_of 18446744073709551615 bytes

-- the record of this kind that a unit tells
abbrev pub unit_line : (ℕ → Record) → List ℕ → Option Record
unit_line kind bytes = unit_number bytes >>= λ unit. Some (kind unit)

unfoldable pub enqueue_line : List ℕ → Option Record
enqueue_line bytes = do
  unit ← number_field 18446744073709551615 bytes
  queue ← number_field 4294967295 unit.1
  priority ← number_field 255 queue.1
  name ← field_at priority.1
  tag ← number_field 18446744073709551615 name.1
  by ← by_of name.0 tag.0
  payload ← bytes_of_hex 65535 tag.1
  Some (Enqueue unit.0 queue.0 priority.0 by payload)

unfoldable pub dequeue_line : List ℕ → Option Record
dequeue_line bytes = do
  unit ← number_field 18446744073709551615 bytes
  queue ← number_field 4294967295 unit.1
  name ← field_at queue.1
  tag ← number_of 18446744073709551615 name.1
  by ← by_of name.0 tag
  Some (Dequeue unit.0 queue.0 by)

abbrev pub checkpoint_line : List ℕ → Option Record
checkpoint_line bytes = bytes_of_hex 268435455 bytes >>= λ kept. Some (Checkpoint kept)

unfoldable pub kill_line : List ℕ → Option Record
kill_line bytes = do
  queue ← number_field 4294967295 bytes
  element ← number_of 18446744073709551615 queue.1
  Some (Kill queue.0 element)

-- version 1 has no line of it
abbrev pub kill_line_in : Version → List ℕ → Option Record
kill_line_in One bytes = None
kill_line_in Two bytes = kill_line bytes

-- the record that a first word and what comes after it tell
unfoldable pub told_by : Version → List ℕ → List ℕ → Option Record
told_by version word bytes =
    if bytes_eq word (codes "define") then define_line bytes
    else if bytes_eq word (codes "register") then registration_line Register bytes
    else if bytes_eq word (codes "deregister") then registration_line Deregister bytes
    else if bytes_eq word (codes "begin") then unit_line Begin bytes
    else if bytes_eq word (codes "enqueue") then enqueue_line bytes
    else if bytes_eq word (codes "dequeue") then dequeue_line bytes
    else if bytes_eq word (codes "commit") then unit_line Commit bytes
    else if bytes_eq word (codes "abort") then unit_line Abort bytes
    else if bytes_eq word (codes "checkpoint-hex") then checkpoint_line bytes
    else if bytes_eq word (codes "kill") then kill_line_in version bytes
    else None

unfoldable pub record_at : Version → List ℕ → Option Record
record_at version text = do
  word ← field_at text
  told_by version word.0 word.1

unfoldable pub told_line : Version → List ℕ → Option Line
told_line version text = do
  r ← record_at version text
  Some (Told r)

abbrev pub line_at : Version → List ℕ → Option Line
line_at version text = if bytes_eq text (codes "checkpoint")
    then Some Spelled else told_line version text

-- what a line of the code is among the words of a script
abbrev pub line_of : code.ScriptLine → Line
line_of (lines.Told r) = Told (record_of r)
line_of lines.Spelled = Spelled

-- a line that the text tells, or Form if no line has this text
abbrev pub ReadsLine : Version → List ℕ → Result code.ScriptLine Fault → Type 0
ReadsLine version text (Ok l) = Tells version (line_of l) text
ReadsLine version text (Err faults.Form) = (l : Line) → Tells version l text → ⊥
ReadsLine version text (Err faults.Resources) = ⊤
ReadsLine version text (Err _) = ⊥
