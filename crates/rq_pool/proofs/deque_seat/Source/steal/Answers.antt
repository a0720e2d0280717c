use Rattle.std.proofs.Common.{arith}
use Rattle.rq_pool.proofs.Rules.{gets}
use Rattle.rq_pool.proofs.deque_seat.Source.steal.Goals as goal

pub steal_as-requires-clause-takes : goal.steal_as-requires-clause-takes
steal_as-requires-clause-takes c = gets _ _ (omega (arith, c.args.self.now.part))
