use Rattle.std.specs.Int.{w64, to_be_bytes}
use Rattle.rq_model.specs.StateSpelling.{element_number}
use Rattle.rq_state.specs.Views.{id_of}
use Rattle.rq_state.proofs.Behind.{follow}
use Rattle.rq_state.proofs.compared.Compared.operation_end.Goals as goal

pub returns : goal.returns
returns c = rw (← c.last.view_is) (follow (to_be_bytes w64 c.last.inside.tag)
    (to_be_bytes w64 (element_number (id_of c.last.inside.element))) c.args.self.now c.u64.new.self c.id.new.self
    c.u64.ensures c.id.ensures)
