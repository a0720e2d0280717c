use Rattle.std.proofs.Common.{take, ap, sym, ◌∙◌}
use Rattle.rq_record.specs.Views.{version_of}
use Rattle.rq_follow.proofs.Beginnings.{plain_begun}
use Rattle.rq_follow.proofs.beginning.stage_of.Goals as goal

pub returns-in-Some-clause-stage : goal.returns-in-Some-clause-stage
returns-in-Some-clause-stage g c =
    plain_begun (version_of c.in-Some.version) c.frames_join.ensures.end c.args.bytes.items c.empty-empty.result
    c.in_ok-pass.pass (ap (take 40) (sym c.deref.ensures.value) ∙ c.in-Some.ensures.some) c.empty-empty.ensures
    c.in_ok-pass.ensures.fed
