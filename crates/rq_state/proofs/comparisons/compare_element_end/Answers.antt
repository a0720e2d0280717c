use Rattle.std.proofs.Common.{◌++◌, ◌∷◌, [], length, List, ℕ, ap, ◌∙◌}
use Rattle.std.specs.Int.{w16, w64, to_be_bytes}
use Rattle.rq_model.specs.States.{Element}
use Rattle.rq_model.specs.StateSpelling.{mark_bytes}
use Rattle.rq_state.specs.Comparing.{left_after}
use Rattle.rq_state.proofs.Behind.{follow}
use Rattle.rq_state.proofs.comparisons.compare_element_end.Goals as goal

pub returns : goal.returns
returns c =
    let e = c.args.element.now in
    let before = c.args.bytes.now in
    let last = c.compare_payload.new.bytes in
    let end = to_be_bytes w16 (length e.payload) ++ e.payload in
    follow (e.priority ∷ []) (to_be_bytes w64 e.attempts ++ (mark_bytes e.mark ++ end)) before c.u8.new.self last
    (c.u8.ensures ∙ ap (λ (x : Element). left_after (x.priority ∷ []) before) c.element.view_is)
    (follow (to_be_bytes w64 e.attempts) (mark_bytes e.mark ++ end) c.u8.new.self c.u64.new.self last
    (c.u64.ensures ∙ ap (λ (x : Element). left_after (to_be_bytes w64 x.attempts) c.u8.new.self) c.element.view_is)
    (follow (mark_bytes e.mark) end c.u64.new.self c.mark.new.self last
    (c.mark.ensures ∙ ap (λ (x : Element). left_after (mark_bytes x.mark) c.u64.new.self) c.element.view_is)
    (c.compare_payload.ensures
    ∙ ap (λ (p : List ℕ). left_after (to_be_bytes w16 (length p) ++ p) c.mark.new.self)
    (c.bytes.ensures.bytes ∙ ap (λ (x : Element). x.payload) c.element.view_is))))
