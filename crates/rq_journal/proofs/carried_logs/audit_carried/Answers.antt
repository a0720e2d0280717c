use Rattle.std.proofs.Common.{◌≡◌, ◌∙◌, map, ap, arith, rules}
use Rattle.std.proofs.lemmas.Grind.{common_steps}
use Rattle.rq_journal.specs.Carries.{as_told}
use Rattle.rq_journal.proofs.carried_logs.audit_carried.Goals as goal

pub returns-clause-told : goal.returns-clause-told
returns-clause-told g c =
    let all : c.loop-offset.told.items ≡ map as_told c.deref-offset-items.result.now =
    first_of (search rules, grind (arith, common_steps)) in
    (c.in_ok-found.found.items, c.in_ok-found.ensures, all ∙ ap (map as_told) c.deref-offset-items.ensures.value)
