use Rattle.std.proofs.Common.{List, ℕ, subst}
use Rattle.rq_restart.specs.RedoneFronts.{IsFoundFront}
use Rattle.rq_restart.proofs.TailEnds.{ends_log}
use Rattle.rq_restart.proofs.tails.Ending.of.Goals as goal
use Rattle.rq_restart.proofs.tails.Ending.of.Goals.{In_ok-from}

found : (g : _) (c : In_ok-from g) → IsFoundFront c.args.bytes.now c.in_ok-from.from
found g c = subst (λ (b : List ℕ). IsFoundFront b c.in_ok-from.from) c.borrowed.ensures c.in_ok-from.ensures

pub ending_behind-requires : goal.ending_behind-requires
ending_behind-requires g c = (40, (found g ((goal.at.ending_behind-requires g c).In_ok-from)).found)

pub returns : goal.returns
returns g c =
    ends_log c.args.bytes.now c.in_ok-from.from (found g ((goal.at.returns g c).In_ok-from)) c.ending_behind.result
    c.ending_behind.ensures.ending c.ending_behind.ensures.refused
