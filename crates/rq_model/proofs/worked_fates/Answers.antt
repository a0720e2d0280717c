use Rattle.std.proofs.Common.{arith}
use Rattle.rq_model.proofs.WorkedEdges.{client_lines_worked}
use Rattle.rq_model.proofs.worked_fates.Goals as goal

pub returns-clause-requests : goal.returns-clause-requests
returns-clause-requests c = grind arith

pub returns-clause-tries : goal.returns-clause-tries
returns-clause-tries c = grind arith

pub returns-clause-clients : goal.returns-clause-clients
returns-clause-clients c = grind arith

pub returns-clause-lines : goal.returns-clause-lines
returns-clause-lines c = client_lines_worked
