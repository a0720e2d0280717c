-- What marks and kinds of the code are in terms of the model.
use Rattle.std.specs.Prelude.{ℕ, Option, option_map}
use Rattle.rq_state.specs.declared.members.Mark.{Mark}
use Rattle.rq_state.specs.declared.members.Mark.TheVariants.{Free, Fresh, Held}
use Rattle.rq_state.specs.declared.members.OpKind.{OpKind}
use Rattle.rq_state.specs.declared.members.OpKind.TheVariants.{Enqueue, Dequeue}
use Rattle.rq_record.specs.declared.record.ElemId.{ElemId}
use Rattle.rq_record.specs.declared.record.UnitNo.{UnitNo}
use Rattle.rq_model.specs.States as model

abbrev pub mark_of : Mark → model.Mark
mark_of Free = model.Free
mark_of (Fresh unit) = model.Fresh unit.0
mark_of (Held unit) = model.Held unit.0

abbrev pub kind_of : OpKind → model.Kind
kind_of Enqueue = model.Enqueued
kind_of Dequeue = model.Dequeued

-- the number of an element, if there is one
abbrev pub id_of : Option ElemId → Option ℕ
id_of element = option_map (λ e. e.0) element

-- the number of a unit
abbrev pub unit_of : UnitNo → ℕ
unit_of unit = unit.0
