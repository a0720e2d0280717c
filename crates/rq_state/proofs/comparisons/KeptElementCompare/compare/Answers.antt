use Rattle.std.proofs.Common.{◌++◌, ◌∷◌, length, ap, ◌∙◌}
use Rattle.std.specs.Int.{w16, w32, w64, to_be_bytes}
use Rattle.rq_model.specs.States.{Element}
use Rattle.rq_model.specs.StateSpelling.{mark_bytes}
use Rattle.rq_state.specs.Comparing.{left_after}
use Rattle.rq_state.proofs.Behind.{follow}
use Rattle.rq_state.proofs.comparisons.KeptElementCompare.compare.Goals as goal

pub returns : goal.returns
returns c =
    let e = c.args.self.now in
    let before = c.args.bytes.now in
    let last = c.compare_element_end.new.bytes in
    let end = e.priority ∷ (to_be_bytes w64 e.attempts
    ++ (mark_bytes e.mark ++ (to_be_bytes w16 (length e.payload) ++ e.payload))) in
    follow (to_be_bytes w64 e.id) (to_be_bytes w32 e.home ++ (to_be_bytes w32 e.origin ++ end)) before c.u64.new.self last
    (c.u64.ensures ∙ ap (λ (x : Element). left_after (to_be_bytes w64 x.id) before) c.self.view_is)
    (follow (to_be_bytes w32 e.home) (to_be_bytes w32 e.origin ++ end) c.u64.new.self c.u32.new.self last
    (c.u32.ensures ∙ ap (λ (x : Element). left_after (to_be_bytes w32 x.home) c.u64.new.self) c.self.view_is)
    (follow (to_be_bytes w32 e.origin) end c.u32.new.self c.u32-2.new.self last
    (c.u32-2.ensures ∙ ap (λ (x : Element). left_after (to_be_bytes w32 x.origin) c.u32.new.self) c.self.view_is)
    c.compare_element_end.ensures))
