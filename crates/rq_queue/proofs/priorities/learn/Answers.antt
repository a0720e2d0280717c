use Rattle.std.specs.Map.{values_of}
use Rattle.rq_queue.specs.Kept.{items_of}
use Rattle.rq_queue.proofs.Known.{known_both}
use Rattle.rq_queue.proofs.priorities.learn.Goals as goal

pub returns-clause-known : goal.returns-clause-known
returns-clause-known c =
    known_both (values_of c.args.free.now.entries) (items_of c.args.marked.now.entries)
    c.in_ok-by_id.by_id.entries c.with_marked.new.by_id.entries c.in_ok-by_id.ensures.added
    c.in_ok-with_marked.ensures.added c.requires.apart
