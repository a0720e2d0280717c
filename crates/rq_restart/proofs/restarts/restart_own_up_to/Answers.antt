use Rattle.std.proofs.Common.{◌≡◌, ◌∙◌, List, ℕ, length, subst}
use Rattle.rq_restart.specs.RedoneFronts.{IsFoundAt}
use Rattle.rq_restart.proofs.RedoneFronts.{restarts_at}
use Rattle.rq_restart.proofs.restarts.restart_own_up_to.Goals as goal
use Rattle.rq_restart.proofs.restarts.restart_own_up_to.Goals.{In_ok-from}

found : (g : _) (c : In_ok-from g) → IsFoundAt c.args.most c.args.bytes.items c.args.offset c.in_ok-from.from
found g c = subst (λ (b : List ℕ). IsFoundAt c.args.most b c.args.offset c.in_ok-from.from)
    (c.shared.ensures ∙ c.in_ok-owned.ensures) c.in_ok-from.ensures

total : (g : _) (c : In_ok-from g) → c.len-total.result ≡ length c.args.bytes.items
total g c = c.len-total.ensures ∙ c.args.bytes.ok.0

pub finish-requires-clause-front : goal.finish-requires-clause-front
finish-requires-clause-front g c κs within =
    let d = (goal.at.finish-requires-clause-front g c).In_ok-from in
    (c.args.bytes.items, c.args.offset, (found g d).found, total g d)

pub returns : goal.returns
returns g c =
    let d = (goal.at.returns g c).In_ok-from in
    restarts_at c.args.most c.args.bytes.items c.args.offset c.in_ok-from.from (found g d) c.len-total.result (total g d)
    c.finish.result c.finish.ensures.answer c.finish.ensures.refused
