use Rattle.std.proofs.Common.{◌++◌, ◌∷◌, ap, ◌∙◌}
use Rattle.std.specs.Int.{w32, w64, to_be_bytes}
use Rattle.rq_model.specs.States.{Note}
use Rattle.rq_state.specs.declared.members.Note.TheInside.{Inside}
use Rattle.rq_model.specs.StateSpelling.{name_bytes, kind_byte, element_number}
use Rattle.rq_state.specs.Comparing.{left_after}
use Rattle.rq_state.proofs.Behind.{follow}
use Rattle.rq_state.proofs.comparisons.NoteCompare.compare.Goals as goal

pub returns : goal.returns
returns c =
    let n = c.args.self.now in
    let before = c.args.bytes.now in
    let last = c.compare_note_end.new.bytes in
    let end = name_bytes n.name ++ kind_byte n.last.kind
    ∷ (to_be_bytes w64 n.last.tag ++ to_be_bytes w64 (element_number n.last.element)) in
    follow (to_be_bytes w64 n.last.place) (to_be_bytes w64 n.unit ++ (to_be_bytes w32 n.queue ++ end)) before
    c.u64.new.self last
    (c.u64.ensures ∙ ap (λ (i : Inside). left_after (to_be_bytes w64 i.last.place) before) c.self-inside.view_is
    ∙ ap (λ (x : Note). left_after (to_be_bytes w64 x.last.place) before) c.self.view_is)
    (follow (to_be_bytes w64 n.unit) (to_be_bytes w32 n.queue ++ end) c.u64.new.self c.u64-2.new.self last
    (c.u64-2.ensures ∙ ap (λ (i : Inside). left_after (to_be_bytes w64 i.unit.0) c.u64.new.self) c.self-inside.view_is
    ∙ ap (λ (x : Note). left_after (to_be_bytes w64 x.unit) c.u64.new.self) c.self.view_is)
    (follow (to_be_bytes w32 n.queue) end c.u64-2.new.self c.u32.new.self last
    (c.u32.ensures ∙ ap (λ (i : Inside). left_after (to_be_bytes w32 i.queue.0) c.u64-2.new.self) c.self-inside.view_is
    ∙ ap (λ (x : Note). left_after (to_be_bytes w32 x.queue) c.u64-2.new.self) c.self.view_is)
    c.compare_note_end.ensures))
