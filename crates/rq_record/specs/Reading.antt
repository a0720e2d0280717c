-- What a call that reads a record returns.
use Rattle.std.specs.Prelude.{◌≡◌, ℕ, List, [], Option, Some, None, IsSome, Result, Ok, Err}
use Rattle.rq_model.specs.Records as model
use Rattle.rq_model.specs.Records.{Version}
use Rattle.rq_model.specs.Spelling.{Spells}
use Rattle.rq_record.specs.Views.{Record, record_of}
use Rattle.rq_record.specs.declared.fault.Fault.{Fault}
use Rattle.rq_record.specs.declared.fault.Fault.TheVariants as faults

-- what is read, seen by view, or Form if nothing is; memory runs out only if something is
abbrev pub KeepsRead : {X Y : Type 0}
    → (X → Y) → Result X Fault → Option (Y × List ℕ) → Type 0
KeepsRead view (Ok x) read = read ≡ Some (view x, [])
KeepsRead view (Err faults.Form) read = read ≡ None
KeepsRead view (Err faults.Resources) read = IsSome read
KeepsRead view (Err _) read = ⊥

-- what a call that decodes returns: the record that the body spells, or Form if it spells none;
-- memory runs out only if it spells one
abbrev pub Decodes : Version → List ℕ → Result Record Fault → Type 0
Decodes version body (Ok r) = Spells version (record_of r) body
Decodes version body (Err faults.Form) = (r : model.Record) → Spells version r body → ⊥
Decodes version body (Err faults.Resources) = (r : model.Record) × Spells version r body
Decodes version body (Err _) = ⊥
