use Rattle.std.proofs.Common.{◌≡◌, take}
use Rattle.rq_queue.proofs.moves.moves_of.Given as goal

abbrev pub invariant-loop-m : goal.invariant-loop-m
invariant-loop-m g l = l.all.items ≡ take l.m-index l.moves
