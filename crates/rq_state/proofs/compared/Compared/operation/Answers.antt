use Rattle.std.proofs.Common.{◌++◌, ◌∷◌, [], ap, ◌∙◌}
use Rattle.std.specs.Int.{w64, to_be_bytes}
use Rattle.rq_model.specs.States.{Last}
use Rattle.rq_model.specs.StateSpelling.{element_number, kind_byte}
use Rattle.rq_state.specs.Comparing.{left_after}
use Rattle.rq_state.proofs.Behind.{follow}
use Rattle.rq_state.proofs.compared.Compared.operation.Goals as goal

pub returns : goal.returns
returns c =
    let l = c.args.last.now in
    let end = to_be_bytes w64 l.tag ++ to_be_bytes w64 (element_number l.element) in
    follow (kind_byte l.kind ∷ []) (to_be_bytes w64 l.place ++ end) c.args.self.now c.kind.new.self
    c.operation_end.new.self
    (c.kind.ensures ∙ ap (λ (x : Last). left_after (kind_byte x.kind ∷ []) c.args.self.now) c.last.view_is)
    (follow (to_be_bytes w64 l.place) end c.kind.new.self c.u64.new.self c.operation_end.new.self
    (c.u64.ensures ∙ ap (λ (x : Last). left_after (to_be_bytes w64 x.place) c.kind.new.self) c.last.view_is)
    c.operation_end.ensures)
