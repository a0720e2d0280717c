-- The lines of a script, and the text of each.
use Rattle.std.specs.Prelude.{◌≡◌, ℕ, ⊤, List, ◌∷◌, ◌++◌, codes, Option, Some, None}
use Rattle.std.specs.Fmt.{decimal}
use Rattle.rq_model.specs.Records.{By, Record, Define, Register, Deregister, Begin, Enqueue}
use Rattle.rq_model.specs.Records.{Dequeue, Commit, Abort, Checkpoint, Kill, Version}
use Rattle.rq_model.specs.Spelling.{IsRecord}
use Rattle.rq_model.specs.Reports.{payload_text, error_text}
use Rattle.rq_model.specs.Frames.{AreBytes}

-- a line: a record in words, or a checkpoint of the state so far
pub data Line : Type 0 where
  Told : (r : Record) → Line
  Spelled : Line

-- the registrant that an operation names, or `-` for nobody
abbrev pub who_name : Option By → List ℕ
who_name None = codes "-"
who_name (Some by) = by.name

-- the tag, 0 for nobody
abbrev pub who_tag : Option By → ℕ
who_tag None = 0
who_tag (Some by) = by.tag

-- a record as a script tells it
abbrev pub record_text : Record → List ℕ
record_text (Define limit error name) = codes "define "
    ++ (name ++ (32 ∷ (decimal limit ++ (32 ∷ error_text error))))
record_text (Register queue name) = codes "register " ++ (decimal queue ++ (32 ∷ name))
record_text (Deregister queue name) = codes "deregister " ++ (decimal queue ++ (32 ∷ name))
record_text (Begin unit) = codes "begin " ++ decimal unit
record_text (Enqueue unit queue priority by payload) =
    codes "enqueue " ++ (decimal unit ++ (32 ∷ (decimal queue ++ (32 ∷ (decimal priority
    ++ (32 ∷ (who_name by ++ (32 ∷ (decimal (who_tag by) ++ (32 ∷ payload_text payload))))))))))
record_text (Dequeue unit queue by) = codes "dequeue "
    ++ (decimal unit
    ++ (32 ∷ (decimal queue ++ (32 ∷ (who_name by ++ (32 ∷ decimal (who_tag by)))))))
record_text (Commit unit) = codes "commit " ++ decimal unit
record_text (Abort unit) = codes "abort " ++ decimal unit
record_text (Checkpoint bytes) = codes "checkpoint-hex " ++ payload_text bytes
record_text (Kill queue element) = codes "kill " ++ (decimal queue ++ (32 ∷ decimal element))

-- an operation cannot name the registrant `-`
abbrev pub IsNamed : Option By → Type 0
IsNamed None = ⊤
IsNamed (Some by) = by.name ≡ codes "-" → ⊥

-- a record that a script can tell
abbrev pub IsTellable : Record → Type 0
IsTellable (Enqueue unit queue priority by payload) = IsNamed by × AreBytes payload
IsTellable (Dequeue unit queue by) = IsNamed by
IsTellable (Checkpoint bytes) = AreBytes bytes
IsTellable _ = ⊤

abbrev pub IsLine : Version → Line → Type 0
IsLine version (Told r) = IsRecord version r × IsTellable r
IsLine version Spelled = ⊤

abbrev pub line_text : Line → List ℕ
line_text (Told r) = record_text r
line_text Spelled = codes "checkpoint"

-- the text is that of the line
abbrev pub Tells : Version → Line → List ℕ → Type 0
Tells version l text = IsLine version l × (text ≡ line_text l)
