-- The line of a record.
use Rattle.std.specs.Prelude.{ℕ, nat_le, ◌==◌, Bool, ◌&&◌, ◌||◌, not, if◌then◌else◌}
use Rattle.std.specs.Prelude.{List, [], ◌∷◌, ◌++◌, length, take, codes, encode_utf8_all, Option, Some, None}
use Rattle.std.specs.List.{flat_map, list_all}
use Rattle.std.specs.Fmt.{decimal}
use Rattle.std.specs.Str.{chars, is_utf8}
use Rattle.rq_model.specs.Records.{By, Record, Define, Register, Deregister, Begin, Enqueue, Dequeue}
use Rattle.rq_model.specs.Records.{Commit, Abort, Checkpoint, Kill}
use Rattle.rq_model.specs.Reports.{error_text, hex_of}
use Rattle.rq_found.specs.Records.{kind_word, unit_shown}
use Rattle.rq_found.specs.Texts.{is_hidden}
use Rattle.rq_look.specs.Entries.{LogEntry}

-- Bytes.

-- the end of a line, a carriage return or a tab: it is no text by itself, but belongs to one
abbrev pub is_layout : ℕ → Bool
is_layout c = c == 10 || (c == 13 || c == 9)

-- it belongs to one, or is not hidden
abbrev pub is_seen : ℕ → Bool
is_seen c = is_layout c || not (is_hidden c)

-- a text of such characters
abbrev pub is_printable : List ℕ → Bool
is_printable bytes = is_utf8 bytes && list_all is_seen (chars bytes)

-- the characters that stand for one of a text between quotation marks
abbrev pub character_text : ℕ → List ℕ
character_text c = if c == 10 then codes "\\n" else if c == 13 then codes "\\r"
    else if c == 9 then codes "\\t" else if c == 34 || c == 92 then 92 ∷ c ∷ [] else c ∷ []

-- characters between quotation marks
abbrev pub quoted_text : List ℕ → List ℕ
quoted_text cs = 34 ∷ (encode_utf8_all (flat_map character_text cs) ++ 34 ∷ [])

-- how many bytes there are of which so many are shown, unless these are all
abbrev pub cut_text : ℕ → ℕ → List ℕ
cut_text shown count = if nat_le count shown then [] else codes ".. " ++ (decimal count ++ codes " bytes")

-- the first characters of a text, and how many bytes it has
abbrev pub words_text : List ℕ → ℕ → List ℕ
words_text cs count = quoted_text cs ++ cut_text (length (encode_utf8_all cs)) count

-- the first bytes in hexadecimal, and how many there are
abbrev pub digits_text : List ℕ → ℕ → List ℕ
digits_text bytes count = codes "hex " ++ (flat_map hex_of bytes ++ cut_text (length bytes) count)

-- bytes, of which so many characters are shown, if they are printable, and else so many bytes
abbrev pub first_text : ℕ → List ℕ → List ℕ
first_text most bytes = if is_printable bytes then words_text (take most (chars bytes)) (length bytes)
    else digits_text (take most bytes) (length bytes)

-- bytes in full, or the first 32 of them
abbrev pub bytes_text : Bool → List ℕ → List ℕ
bytes_text full [] = codes "-"
bytes_text full (b ∷ bytes) = first_text (if full then length (b ∷ bytes) else 32) (b ∷ bytes)

-- Records.

-- a word and a number, if there is one
abbrev pub known_text : List ℕ → Option ℕ → List ℕ
known_text word None = []
known_text word (Some number) = word ++ decimal number

-- who does an operation
abbrev pub by_text : Option By → List ℕ
by_text None = codes " by -"
by_text (Some by) = codes " by " ++ (by.name ++ (codes " tag " ++ decimal by.tag))

-- the fields that no other kind of record has
abbrev pub fields_text : Bool → Record → List ℕ
fields_text full (Define limit error name) = codes " name " ++ (name ++ (codes " limit " ++ (decimal limit
    ++ (codes " error " ++ error_text error))))
fields_text full (Register queue name) = codes " name " ++ name
fields_text full (Deregister queue name) = codes " name " ++ name
fields_text full (Begin unit) = []
fields_text full (Enqueue unit queue priority by payload) = codes " priority " ++ (decimal priority
    ++ (by_text by ++ (codes " payload " ++ bytes_text full payload)))
fields_text full (Dequeue unit queue by) = by_text by
fields_text full (Commit unit) = []
fields_text full (Abort unit) = []
fields_text full (Checkpoint bytes) = codes " bytes " ++ bytes_text full bytes
fields_text full (Kill queue element) = codes " element " ++ decimal element

-- the number of a record, which is not known behind the front
abbrev pub number_text : Option ℕ → List ℕ
number_text None = codes "behind"
number_text (Some number) = decimal number

-- the line of a record where it stands
abbrev pub record_line : Bool → LogEntry → List ℕ
record_line full e = decimal e.offset ++ (codes " " ++ (number_text e.number ++ (codes " "
    ++ (kind_word e.kept ++ (known_text (codes " unit ") (unit_shown e.kept)
    ++ (known_text (codes " queue ") e.queue ++ fields_text full e.kept))))))
