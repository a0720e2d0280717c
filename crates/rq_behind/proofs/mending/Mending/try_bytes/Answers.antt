use Rattle.rq_behind.proofs.Advances.{tried_then}
use Rattle.rq_behind.proofs.mending.Mending.try_bytes.Goals as goal

pub returns : goal.returns
returns g c =
    tried_then c.try_byte-2.result c.args.self.now c.try_byte.new.self c.try_byte-2.new.self c.in_ok-try_byte.field-0
    c.if-branch.false c.in_ok-try_byte.ensures c.try_byte-2.ensures
