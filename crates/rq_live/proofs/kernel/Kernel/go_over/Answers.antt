use Rattle.std.proofs.Common.{◌≡◌, ◌∙◌, length, ap, refl, arith}
use Rattle.rq_model.specs.Records.{Checkpoint}
use Rattle.rq_standing.specs.Machines.{state_after}
use Rattle.rq_live.proofs.Carrying.{goes_over}
use Rattle.rq_live.proofs.kernel.Kernel.go_over.Goals as goal

pub returns-in-Ok-Done-clause-over : goal.returns-in-Ok-Done-clause-over
returns-in-Ok-Done-clause-over c =
    let a = c.args.self.now in
    let first = c.args.begun.now in
    let size : c.len-self.result ≡ length first.bytes.items = omega (arith, c.len-self.ensures, first.bytes.ok) in
    goes_over c.runs_are_well_formed.ensures.start a
    (record a { machine = c.take.new.self; last = first.last; len = c.len-self.result }) first.bytes.items first.last
    c.requires.begun refl
    (c.in-Ok-Done.ensures.state ∙ ap (state_after a.machine (Checkpoint c.in-Some.bytes)) c.in-Ok-Done.field-0-is) refl
    size c.requires.none
