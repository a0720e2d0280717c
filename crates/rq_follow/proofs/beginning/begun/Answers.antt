use Rattle.std.proofs.Common.{drop}
use Rattle.rq_record.specs.Views.{version_of}
use Rattle.rq_follow.specs.Passes.{origin_at}
use Rattle.rq_follow.proofs.beginning.begun.Goals as goal

pub returns-clause-fed : goal.returns-clause-fed
returns-clause-fed g c =
    c.in_ok-do_all.ensures.fed (origin_at (version_of c.args.version) c.args.machine c.args.bytes.items c.args.place)
    (drop c.args.place c.args.bytes.items) c.new-pass.ensures
