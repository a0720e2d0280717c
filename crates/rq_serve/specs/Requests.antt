-- What a line spells, read from left to right.
use Rattle.std.specs.Prelude.{ℕ, ◌||◌, ◌&&◌, ◌==◌, if◌then◌else◌, nat_le, not, Bool, true, false}
use Rattle.std.specs.Prelude.{List, [], length, codes, Option, Some, None, Result, Ok, Err}
use Rattle.std.specs.List.{list_all}
use Rattle.std.specs.Str.{bytes_eq}
use Rattle.hex.specs.Hex.{decode_of}
use Rattle.rq_bytes.specs.Readers.{◌>>=◌}
use Rattle.rq_record.specs.declared.record.UnitNo.{UnitNo}
use Rattle.rq_record.specs.declared.record.ElemId.{ElemId}
use Rattle.rq_writer.specs.Reading.{cut_at, field_at, number_of, number_field, by_of, bytes_of_hex, name_of}
use Rattle.rq_serve.specs.declared.requests.Request.{Request}
use Rattle.rq_serve.specs.declared.requests.Request.TheVariants as requests

-- a name, and what comes after its space
abbrev pub name_field : List ℕ → Option (List ℕ × List ℕ)
name_field text = field_at text >>= λ word. name_of word.0 >>= λ name. Some (name, word.1)

-- a name, or none if it is `-`
abbrev pub optional_name : List ℕ → Option (Option (List ℕ))
optional_name text = if bytes_eq text (codes "-") then Some None
    else (name_of text >>= λ name. Some (Some name))

abbrev pub unit_word : List ℕ → Option UnitNo
unit_word text = number_of 18446744073709551615 text >>= λ n. Some (record { 0 = n })

abbrev pub element_word : List ℕ → Option ElemId
element_word text = number_of 18446744073709551615 text >>= λ n. Some (record { 0 = n })

-- `define QUEUE LIMIT ERROR`
unfoldable pub define_words : List ℕ → Option Request
define_words text = do
  queue ← name_field text
  limit ← number_field 65535 queue.1
  error ← optional_name limit.1
  Some (requests.Define queue.0 limit.0 error)

-- `QUEUE WHO`
unfoldable pub registration_words : List ℕ → Option (List ℕ × List ℕ)
registration_words text = do
  queue ← name_field text
  who ← name_of queue.1
  Some (queue.0, who)

-- `enqueue UNIT QUEUE PRIORITY WHO TAG HEX`
unfoldable pub enqueue_words : List ℕ → Option Request
enqueue_words text = do
  unit ← number_field 18446744073709551615 text
  queue ← name_field unit.1
  priority ← number_field 255 queue.1
  who ← field_at priority.1
  tag ← number_field 18446744073709551615 who.1
  by ← by_of who.0 tag.0
  payload ← bytes_of_hex 65535 tag.1
  Some (requests.Enqueue (record { 0 = unit.0 }) queue.0 priority.0 by payload)

-- `dequeue UNIT QUEUE WHO TAG`
unfoldable pub dequeue_words : List ℕ → Option Request
dequeue_words text = do
  unit ← number_field 18446744073709551615 text
  queue ← name_field unit.1
  who ← field_at queue.1
  tag ← number_of 18446744073709551615 who.1
  by ← by_of who.0 tag
  Some (requests.Dequeue (record { 0 = unit.0 }) queue.0 by)

-- the unit of `commit UNIT` and of `commit UNIT later`
abbrev pub commit_cut : List ℕ → Option (List ℕ × List ℕ) → Option Request
commit_cut text None = unit_word text >>= λ unit. Some (requests.Commit unit false)
commit_cut text (Some x) = if bytes_eq x.1 (codes "later")
    then (unit_word x.0 >>= λ unit. Some (requests.Commit unit true)) else None

abbrev pub commit_words : List ℕ → Option Request
commit_words text = commit_cut text (cut_at 32 text)

-- `kill QUEUE ELEMENT`
unfoldable pub kill_words : List ℕ → Option Request
kill_words text = do
  queue ← name_field text
  element ← element_word queue.1
  Some (requests.Kill queue.0 element)

-- `queue QUEUE COUNT`
unfoldable pub listing_words : List ℕ → Option Request
listing_words text = do
  queue ← name_field text
  count ← number_of 18446744073709551615 queue.1
  Some (requests.Queue queue.0 count)

-- a line of one word
abbrev pub word_request : List ℕ → Option Request
word_request text =
    if bytes_eq text (codes "begin") then Some (requests.Begin None)
    else if bytes_eq text (codes "settle") then Some requests.Settle
    else if bytes_eq text (codes "checkpoint") then Some requests.Checkpoint
    else if bytes_eq text (codes "carry") then Some requests.Carry
    else if bytes_eq text (codes "queues") then Some requests.Queues
    else if bytes_eq text (codes "close") then Some requests.Close
    else None

-- what a first word asks for of a registrant
abbrev pub registrant_asked : List ℕ → List ℕ × List ℕ → Option Request
registrant_asked word x =
    if bytes_eq word (codes "register") then Some (requests.Register x.0 x.1)
    else if bytes_eq word (codes "deregister") then Some (requests.Deregister x.0 x.1)
    else if bytes_eq word (codes "last") then Some (requests.Last x.0 x.1)
    else None

-- a first word about a registrant, and what comes after it
abbrev pub registrant_request : List ℕ → List ℕ → Option Request
registrant_request word rest = registration_words rest >>= λ x. registrant_asked word x

-- a first word, and what comes after it
unfoldable pub words_request : List ℕ → List ℕ → Option Request
words_request word rest =
    if bytes_eq word (codes "enqueue") then enqueue_words rest
    else if bytes_eq word (codes "dequeue") then dequeue_words rest
    else if bytes_eq word (codes "commit") then commit_words rest
    else if bytes_eq word (codes "begin") then (unit_word rest >>= λ unit. Some (requests.Begin (Some unit)))
    else if bytes_eq word (codes "abort") then (unit_word rest >>= λ unit. Some (requests.Abort unit))
    else if bytes_eq word (codes "kill") then kill_words rest
    else if bytes_eq word (codes "define") then define_words rest
    else if bytes_eq word (codes "queue") then listing_words rest
    else registrant_request word rest

-- a line whose first word ends here
abbrev pub cut_request : List ℕ → Option (List ℕ × List ℕ) → Option Request
cut_request line None = word_request line
cut_request line (Some x) = words_request x.0 x.1

-- what the line asks for: one request, or none
abbrev pub request_of : List ℕ → Option Request
request_of line = if nat_le (length line) 131254 then cut_request line (cut_at 32 line) else None
