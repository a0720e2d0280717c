use Rattle.rq_behind.proofs.Advances.{tried_then}
use Rattle.rq_behind.proofs.mending.Mending.mend_place.Goals as goal

pub returns : goal.returns
returns g c =
    tried_then c.try_bytes.result c.args.self.now c.try_ends.new.self c.try_bytes.new.self c.in_ok-try_ends.field-0
    c.if-branch.false c.in_ok-try_ends.ensures c.try_bytes.ensures
