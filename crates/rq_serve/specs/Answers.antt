-- The lines of an answer.
use Rattle.std.specs.Prelude.{ℕ, List, [], ◌++◌, codes, string_bytes}
use Rattle.std.specs.Fmt.{decimal}
use Rattle.rq_model.specs.States.{Element, Last, Definition}
use Rattle.rq_model.specs.Reports.{element_text, error_text, kind_text, payload_text}
use Rattle.rq_live.specs.declared.looks.Depths.{Depths}
use Rattle.rq_serve.specs.declared.answers.Answer.{Answer}
use Rattle.rq_serve.specs.declared.answers.Answer.TheVariants as answers
use Rattle.rq_serve.specs.declared.refusals.Refused.{Refused}
use Rattle.rq_serve.specs.declared.refusals.Refused.TheVariants as refusals

-- the word of a refusal
abbrev pub refused_word : Refused → List ℕ
refused_word refusals.NoQueue = codes "no-queue"
refused_word refusals.NoUnit = codes "no-unit"
refused_word refusals.NoRegistrant = codes "no-registrant"
refused_word refusals.Unit = codes "unit"
refused_word refusals.Defined = codes "defined"
refused_word refusals.Limit = codes "limit"
refused_word refusals.Queues = codes "queues"
refused_word refusals.Version = codes "version"
refused_word refusals.Doomed = codes "doomed"
refused_word refusals.Full = codes "full"
refused_word refusals.Large = codes "large"
refused_word refusals.Ended = codes "ended"
refused_word refusals.Carry = codes "carry"

-- and what it means, for people
abbrev pub refused_text : Refused → List ℕ
refused_text refusals.NoQueue = codes "no queue has this name"
refused_text refusals.NoUnit = codes "the unit is not open"
refused_text refusals.NoRegistrant = codes "nobody is registered with this queue by the name"
refused_text refusals.Unit = codes "the unit is not greater than every one before"
refused_text refusals.Defined = codes "the queue is defined with another limit or error queue"
refused_text refusals.Limit = codes "this limit does not go with this error queue"
refused_text refusals.Queues = codes "4096 queues are defined"
refused_text refusals.Version = codes "the log has version 1"
refused_text refusals.Doomed = codes "a line was refused in the unit: abort it"
refused_text refusals.Full = codes "the log has no room for it and the ends of all open units"
refused_text refusals.Large = codes "the state has more bytes than a checkpoint may"
refused_text refusals.Ended = codes "more records were done than a checkpoint may count"
refused_text refusals.Carry = codes "the new log could not be made"

-- an element that was taken, and the name of the queue that it was put into
abbrev pub taken_text : List ℕ → Element → List ℕ
taken_text from e = codes "element " ++ (decimal e.id ++ (codes " " ++ (from ++ (codes " "
    ++ (decimal e.priority ++ (codes " " ++ (decimal e.attempts ++ (codes " " ++ payload_text e.payload))))))))

-- the last operation of a registrant
abbrev pub told_last : Last → List ℕ
told_last l = codes "last "
    ++ (kind_text l.kind ++ (codes " " ++ (decimal l.tag ++ (codes " " ++ element_text l.element))))

-- an answer, without its LF
abbrev pub answer_text : Answer → List ℕ
answer_text answers.Done = codes "ok"
answer_text answers.Later = codes "later"
answer_text answers.Nothing = codes "none"
answer_text (answers.Queue number) = codes "queue " ++ decimal number.0
answer_text answers.NoLast = codes "last none"
answer_text (answers.Last last) = told_last last
answer_text (answers.Unit unit) = codes "unit " ++ decimal unit.0
answer_text (answers.Element id) = codes "element " ++ decimal id.0
answer_text (answers.Taken from e) = taken_text from e
answer_text (answers.Checkpoint offset) = codes "checkpoint " ++ decimal offset
answer_text (answers.Carried records) = codes "carried " ++ decimal records
answer_text (answers.Closed bytes) = codes "closed " ++ decimal bytes
answer_text (answers.Lines count lines) = codes "lines " ++ decimal count
answer_text (answers.Refused refused) = codes "refused "
    ++ (refused_word refused ++ (codes ": " ++ refused_text refused))
answer_text answers.NoRequest = codes "error: the line is no request"

-- the lines that follow it
abbrev pub more_lines : Answer → List ℕ
more_lines (answers.Lines count lines) = string_bytes lines
more_lines _ = []

-- the lines of an answer
abbrev pub answer_lines : Answer → List ℕ
answer_lines answer = answer_text answer ++ (codes "\n" ++ more_lines answer)

-- the line of a queue, as a report has it, and behind it how many elements the queue has
abbrev pub counted_line : ℕ → Definition → Depths → List ℕ
counted_line number d depths = codes "queue " ++ (decimal number ++ (codes " " ++ (d.name ++ (codes " limit "
    ++ (decimal d.limit ++ (codes " error " ++ (error_text d.error ++ (codes " free " ++ (decimal depths.free
    ++ (codes " fresh " ++ (decimal depths.fresh ++ (codes " held " ++ (decimal depths.held ++ codes "\n")))))))))))))
