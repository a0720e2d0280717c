use Rattle.std.proofs.Common.{arith}
use Rattle.rq_standing.proofs.Spellings.{head_compared}
use Rattle.rq_standing.proofs.queues.Queues.compare_head.Goals as goal

pub returns : goal.returns
returns c = λ t holds. head_compared c.args.self.now t c.len.result c.args.bytes.now c.u64.new.self c.u64-2.new.self
    c.u64-3.new.self c.u64-4.new.self c.member_count.new.self holds (omega (arith, c.len.ensures, c.args.self.now.definitions.ok.0))
    c.u64.ensures c.u64-2.ensures c.u64-3.ensures c.u64-4.ensures c.member_count.ensures
