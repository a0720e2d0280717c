use Rattle.std.proofs.Common.{◌≡◌, ◌≤◌, ℕ, length, subst, sym}
use Rattle.std.specs.Prelude.{Bool, IsTrue, ◌↔◌}
use Rattle.rq_record.specs.Views.{version_of}
use Rattle.rq_behind.specs.Runs.{LooksRight, frame_end}
use Rattle.rq_behind.proofs.Ends.{ends_there, stands_there}
use Rattle.rq_behind.proofs.runs.are_two_likely.Goals as goal

pub returns-else-third-bytes : goal.returns-else-third-bytes
returns-else-third-bytes c =
    let b = c.args.bytes.now in
    let third = c.in-Some.third in
    let Looks = LooksRight (version_of c.args.version) b in
    stands_there Looks b c.args.second third c.is_some.result c.in-Some.ensures.0 c.in-Some.ensures.1
    c.if-third-bytes.false
    (subst (λ (t : Bool). IsTrue t ↔ Looks third) (sym c.is_some.ensures)
    (ends_there (λ (end : ℕ). end ≡ frame_end b third) (λ (end : ℕ). end ≤ length b)
    c.likely_end-else-third-bytes.result c.likely_end-else-third-bytes.ensures))
