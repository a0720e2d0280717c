use Rattle.std.proofs.Common.{◌++◌, ◌∷◌, [], ap, ◌∙◌}
use Rattle.std.specs.Int.{w64, to_be_bytes}
use Rattle.rq_model.specs.States.{Note}
use Rattle.rq_state.specs.declared.members.Note.TheInside.{Inside}
use Rattle.rq_model.specs.StateSpelling.{name_bytes, kind_byte, element_number}
use Rattle.rq_state.specs.Comparing.{left_after}
use Rattle.rq_state.proofs.Behind.{follow}
use Rattle.rq_state.proofs.comparisons.compare_note_end.Goals as goal

pub returns : goal.returns
returns c =
    let n = c.args.note.now in
    let before = c.args.bytes.now in
    let end = to_be_bytes w64 n.last.tag ++ to_be_bytes w64 (element_number n.last.element) in
    follow (name_bytes n.name) (kind_byte n.last.kind ∷ end) before c.name.new.self c.operation_end.new.self
    (c.name.ensures ∙ ap (λ name. left_after (name_bytes name) before)
    (c.bytes.ensures.bytes ∙ ap (λ (i : Inside). i.name) c.note-inside.view_is
    ∙ ap (λ (x : Note). x.name) c.note.view_is))
    (follow (kind_byte n.last.kind ∷ []) end c.name.new.self c.kind.new.self c.operation_end.new.self
    (c.kind.ensures ∙ ap (λ (i : Inside). left_after (kind_byte i.last.kind ∷ []) c.name.new.self) c.note-inside.view_is
    ∙ ap (λ (x : Note). left_after (kind_byte x.last.kind ∷ []) c.name.new.self) c.note.view_is)
    (c.operation_end.ensures ∙ ap (λ (x : Note). left_after (to_be_bytes w64 x.last.tag
    ++ to_be_bytes w64 (element_number x.last.element)) c.kind.new.self) c.note.view_is))
