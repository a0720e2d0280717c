use Rattle.std.proofs.Common.{◌∷◌, [], length}
use Rattle.rq_state.proofs.Behind.{follow}
use Rattle.rq_state.proofs.compared.Compared.name.Goals as goal

pub returns : goal.returns
returns c = follow (length c.args.name.now ∷ []) c.args.name.now c.args.self.now c.u8.new.self c.next_bytes.new.self
    c.u8.ensures c.next_bytes.ensures
