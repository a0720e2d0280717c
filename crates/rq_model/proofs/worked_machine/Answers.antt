use Rattle.std.proofs.Common.{arith}
use Rattle.rq_model.proofs.worked_machine.Goals as goal

pub returns-clause-law : goal.returns-clause-law
returns-clause-law c = grind arith

pub returns-clause-steps : goal.returns-clause-steps
returns-clause-steps c = grind arith

pub returns-clause-orders : goal.returns-clause-orders
returns-clause-orders c = grind arith

pub returns-clause-queues : goal.returns-clause-queues
returns-clause-queues c = grind arith

pub returns-clause-redo : goal.returns-clause-redo
returns-clause-redo c = grind arith
