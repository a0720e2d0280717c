-- What a record and a version of the code are in terms of the model.
use Rattle.std.specs.Prelude.{ℕ, List, Option}
use Rattle.rq_model.specs.Records as model
use Rattle.rq_record.specs.declared.record.RecordOf.{RecordOf}
use Rattle.rq_record.specs.declared.record.RecordOf.TheVariants.{Define, Register, Deregister, Begin, Enqueue}
use Rattle.rq_record.specs.declared.record.RecordOf.TheVariants.{Dequeue, Commit, Abort, Checkpoint, Kill}
use Rattle.rq_record.specs.declared.version.Version.{Version}
use Rattle.rq_record.specs.declared.version.Version.TheVariants.{One, Two}

-- a record, kept or not: a name, who an operation is by and a payload are the model's
abbrev pub Record : Type 0
Record = RecordOf (List ℕ) (Option model.By) (List ℕ)

-- the same kind with the same fields
abbrev pub record_of : Record → model.Record
record_of (Define limit error name) = model.Define limit error.0 name
record_of (Register queue name) = model.Register queue.0 name
record_of (Deregister queue name) = model.Deregister queue.0 name
record_of (Begin unit) = model.Begin unit.0
record_of (Enqueue priority queue unit by payload) =
    model.Enqueue unit.0 queue.0 priority by payload
record_of (Dequeue unit queue by) = model.Dequeue unit.0 queue.0 by
record_of (Commit unit) = model.Commit unit.0
record_of (Abort unit) = model.Abort unit.0
record_of (Checkpoint bytes) = model.Checkpoint bytes
record_of (Kill queue element) = model.Kill queue.0 element.0

abbrev pub version_of : Version → model.Version
version_of One = model.One
version_of Two = model.Two
