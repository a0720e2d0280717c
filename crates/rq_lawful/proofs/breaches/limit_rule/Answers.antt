use Rattle.std.proofs.Common.{◌≡◌, nat_le, true, rules}
use Rattle.rq_lawful.proofs.breaches.limit_rule.Goals as goal

pub returns-then-limit-ne0-clause-which : goal.returns-then-limit-ne0-clause-which
returns-then-limit-ne0-clause-which g c = λ s name knows.
    let above : nat_le 1 c.args.limit ≡ true = search rules in
    c.error_rule.ensures.which s name knows above
