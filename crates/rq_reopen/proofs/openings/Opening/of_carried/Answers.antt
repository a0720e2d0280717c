use Rattle.std.proofs.Common.{ℕ, List, length, subst}
use Rattle.rq_live.specs.Kernels.{StandsWithin}
use Rattle.rq_reopen.specs.declared.found_log.FoundLog.{FoundLog}
use Rattle.rq_reopen.specs.Files.{IsCarriedFound}
use Rattle.rq_reopen.proofs.Opened.{opened_so}
use Rattle.rq_reopen.proofs.Files.{found_within_from, opens_from}
use Rattle.rq_reopen.proofs.openings.Opening.of_carried.Goals as goal

pub opened_behind-requires-clause-after : goal.opened_behind-requires-clause-after
opened_behind-requires-clause-after g c =
    (found_within_from c.args.left.now c.in-Ok.found
    (subst (λ (b : List ℕ). IsCarriedFound b c.in-Ok.found) c.borrowed.ensures c.in-Ok.ensures.finds)).0

pub opened_behind-requires-clause-within : goal.opened_behind-requires-clause-within
opened_behind-requires-clause-within g c =
    (found_within_from c.args.left.now c.in-Ok.found
    (subst (λ (b : List ℕ). IsCarriedFound b c.in-Ok.found) c.borrowed.ensures c.in-Ok.ensures.finds)).1

pub returns-in-Ok-clause-opens : goal.returns-in-Ok-clause-opens
returns-in-Ok-clause-opens g c =
    opens_from c.args.left.now c.in-Ok.found c.args.drops
    (subst (λ (b : List ℕ). IsCarriedFound b c.in-Ok.found) c.borrowed.ensures c.in-Ok.ensures.finds)
    c.opened_behind.result c.opened_behind.ensures

pub returns-in-Ok-clause-within : goal.returns-in-Ok-clause-within
returns-in-Ok-clause-within g c =
    opened_so (λ (l : FoundLog). StandsWithin l.kernel (length c.args.left.now)) c.args.left.now c.in-Ok.found
    c.args.drops c.opened_behind.result c.opened_behind.ensures
    (subst (λ (b : List ℕ). StandsWithin c.in-Ok.found.kernel (length b)) c.borrowed.ensures c.in-Ok.ensures.within)
