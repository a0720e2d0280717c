use Rattle.std.proofs.Common.{◌+◌, ◌*◌}
use Rattle.rq_judged.proofs.bodies.+shares.Given as goal

-- the others are fewer workers
abbrev pub decreases-read_apart : goal.decreases-read_apart
decreases-read_apart g l = 2 * l.workers

abbrev pub decreases-join+arg2 : goal.decreases-join+arg2
decreases-join+arg2 g l = 2 * l.fewer + 1
