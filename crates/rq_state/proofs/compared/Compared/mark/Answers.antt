use Rattle.std.proofs.Common.{◌∷◌, []}
use Rattle.std.specs.Int.{w64, to_be_bytes}
use Rattle.rq_state.proofs.Behind.{follow}
use Rattle.rq_state.proofs.compared.Compared.mark.Goals as goal

pub returns-in-Fresh : goal.returns-in-Fresh
returns-in-Fresh c = rw c.in-Fresh.is (follow (1 ∷ []) (to_be_bytes w64 c.in-Fresh.unit.0) c.args.self.now
    c.u8-in-Fresh.new.self c.u64.new.self c.u8-in-Fresh.ensures c.u64.ensures)

pub returns-in-Held : goal.returns-in-Held
returns-in-Held c = rw c.in-Held.is (follow (2 ∷ []) (to_be_bytes w64 c.in-Held.unit.0) c.args.self.now
    c.u8-in-Held.new.self c.u64-in-Held.new.self c.u8-in-Held.ensures c.u64-in-Held.ensures)
