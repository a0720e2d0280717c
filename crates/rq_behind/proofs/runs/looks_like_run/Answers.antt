use Rattle.rq_record.specs.Views.{version_of}
use Rattle.rq_behind.specs.Runs.{LooksRight, EndsOr}
use Rattle.rq_behind.proofs.Ends.{stands_there}
use Rattle.rq_behind.proofs.runs.looks_like_run.Goals as goal

pub returns-else-second-bytes : goal.returns-else-second-bytes
returns-else-second-bytes c =
    let b = c.args.bytes.now in
    let Looks = LooksRight (version_of c.args.version) b in
    stands_there (λ second. Looks second × EndsOr Looks b second) b c.args.at c.in-Some.second
    c.are_two_likely.result c.in-Some.ensures.0 c.in-Some.ensures.1 c.if-second-bytes.false c.are_two_likely.ensures
