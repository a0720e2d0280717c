-- What a call that writes leaves of a writer.
use Rattle.std.specs.Prelude.{◌≡◌, ℕ, ◌+◌, List, ◌++◌, Option, Result, Ok, Err}
use Rattle.std.specs.Io.KnownBytes.{Keeps, Appends}
use Rattle.rq_model.specs.Fronts.{Restarted}
use Rattle.rq_model.specs.Reports.{IsText}
use Rattle.rq_record.specs.declared.fault.Fault.{Fault}
use Rattle.rq_record.specs.declared.fault.Fault.TheVariants as faults

-- a beginning of the text is written
abbrev pub AppendsFront : Option (List ℕ) → Option (List ℕ) → List ℕ → Type 0
AppendsFront old new text = (front rest : List ℕ) × (text ≡ front ++ rest) × Appends old new front

-- the text is written; or the writer failed once, and a beginning of the text is written
abbrev pub Delivers : {A : Type 0} → ℕ → ℕ → Option (List ℕ)
    → Option (List ℕ) → List ℕ → Result A Fault → Type 0
Delivers before after old new text (Ok x) = (after ≡ before) × Appends old new text
Delivers before after old new text (Err faults.WriteFailed) =
    (after ≡ before + 1) × AppendsFront old new text
Delivers before after old new text (Err _) = ⊥

-- the report is written; or the writer failed once, and a beginning of it is written; or memory was
-- refused, and nothing is written
abbrev pub Reports : {A : Type 0} → Restarted → ℕ → ℕ
    → Option (List ℕ) → Option (List ℕ) → Result A Fault → Type 0
Reports r before after old new (Ok x) = (text : List ℕ) × IsText r text
    × (after ≡ before) × Appends old new text
Reports r before after old new (Err faults.WriteFailed) =
    (text : List ℕ) × IsText r text × (after ≡ before + 1) × AppendsFront old new text
Reports r before after old new (Err faults.Resources) = (after ≡ before) × Keeps old new
Reports r before after old new (Err _) = ⊥
