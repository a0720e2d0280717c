use Rattle.std.proofs.Common.{List, ℕ, subst}
use Rattle.std.proofs.lemmas.Result.{err_from_is_err_and}
use Rattle.rq_judged.specs.Refusals.{RefusedCarried}
use Rattle.rq_model.specs.StateSpelling.{carried_next}
use Rattle.rq_restart.specs.RedoneFronts.{IsFoundAt}
use Rattle.rq_restart.proofs.TailEnds.{ends_log_at, refused_there}
use Rattle.rq_restart.proofs.tails.Ending.ending_at.Goals as goal
use Rattle.rq_restart.proofs.tails.Ending.ending_at.Goals.{In_ok-from}

found : (g : _) (c : In_ok-from g) → IsFoundAt carried_next c.args.bytes.now c.args.offset c.in_ok-from.from
found g c = subst (λ (b : List ℕ). IsFoundAt carried_next b c.args.offset c.in_ok-from.from) c.borrowed.ensures c.in_ok-from.ensures

pub ending_behind-requires : goal.ending_behind-requires
ending_behind-requires g c = (c.args.offset, (found g ((goal.at.ending_behind-requires g c).In_ok-from)).found)

pub returns : goal.returns
returns g c =
    ends_log_at c.args.bytes.now c.args.offset c.in_ok-from.from (found g ((goal.at.returns g c).In_ok-from))
    c.ending_behind.result c.ending_behind.ensures.ending c.ending_behind.ensures.refused

pub returns-in_err-from : goal.returns-in_err-from
returns-in_err-from g c =
    let p = err_from_is_err_and c.from_residual.result c.from_residual.ensures.1 in
    let e = c.in_err-from.field-0.0 in
    rw (p.1, p.2) (refused_there c.args.bytes.now c.args.offset e
    (subst (λ (b : List ℕ). RefusedCarried b c.args.offset e) c.borrowed.ensures c.in_err-from.ensures))
