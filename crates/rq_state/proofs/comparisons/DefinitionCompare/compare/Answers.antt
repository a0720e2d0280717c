use Rattle.std.proofs.Common.{◌++◌, ap, ◌∙◌}
use Rattle.std.specs.Int.{w16, w32, to_be_bytes}
use Rattle.rq_model.specs.States.{Definition}
use Rattle.rq_model.specs.StateSpelling.{name_bytes}
use Rattle.rq_state.specs.Comparing.{left_after}
use Rattle.rq_state.proofs.Behind.{follow}
use Rattle.rq_state.proofs.comparisons.DefinitionCompare.compare.Goals as goal

pub returns : goal.returns
returns c =
    let d = c.args.self.now in
    let before = c.args.bytes.now in
    follow (to_be_bytes w16 d.limit) (to_be_bytes w32 d.error ++ name_bytes d.name) before c.u16.new.self c.name.new.self
    (c.u16.ensures ∙ ap (λ (x : Definition). left_after (to_be_bytes w16 x.limit) before) c.self.view_is)
    (follow (to_be_bytes w32 d.error) (name_bytes d.name) c.u16.new.self c.u32.new.self c.name.new.self
    (c.u32.ensures ∙ ap (λ (x : Definition). left_after (to_be_bytes w32 x.error) c.u16.new.self) c.self.view_is)
    (c.name.ensures ∙ ap (λ name. left_after (name_bytes name) c.u32.new.self)
    (c.bytes.ensures.bytes ∙ ap (λ (x : Definition). x.name) c.self.view_is)))
