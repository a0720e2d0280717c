use Rattle.std.proofs.Common.{length}
use Rattle.std.specs.Int.{w16, to_be_bytes}
use Rattle.rq_state.proofs.Behind.{follow}
use Rattle.rq_state.proofs.comparisons.compare_payload.Goals as goal

pub returns : goal.returns
returns c = follow (to_be_bytes w16 (length c.args.payload.now)) c.args.payload.now c.args.bytes.now c.u16.new.self
    c.next_bytes.new.self c.u16.ensures c.next_bytes.ensures
