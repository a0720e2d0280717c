-- Operations, as places in the log and indices in the list of all records.
use Rattle.std.specs.Prelude.{ℕ, List, map, slice_index_or}
use Rattle.rq_model.specs.Records.{Record, Begin}
use Rattle.rq_model.specs.Queues.{Op}

-- the operation at a place and an index; behind the records there is none, and a BEGIN stands for it
abbrev pub op_at : List Record → ℕ × ℕ → Op
op_at rs p = record { place = p.0; does = slice_index_or rs p.1 (Begin 0) }

abbrev pub ops_at : List Record → List (ℕ × ℕ) → List Op
ops_at rs ps = map (op_at rs) ps
