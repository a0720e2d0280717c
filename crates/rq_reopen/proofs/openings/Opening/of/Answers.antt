use Rattle.std.proofs.Common.{ℕ, ◌≤◌, List, length, sym, subst}
use Rattle.rq_live.specs.Kernels.{StandsWithin}
use Rattle.rq_reopen.specs.declared.found_log.FoundLog.{FoundLog}
use Rattle.rq_reopen.specs.Openings.{GoesOnAt, IsExactlyFound, OpensBehind}
use Rattle.rq_reopen.proofs.Opened.{found_within, opened_headed, opened_so, opens_there}
use Rattle.rq_reopen.proofs.openings.Opening.of.Goals as goal

pub opened_behind-requires-clause-after : goal.opened_behind-requires-clause-after
opened_behind-requires-clause-after g c = (found_within c.args.left.now c.in-Ok.found c.in-Ok.ensures.finds).0

pub opened_behind-requires-clause-within : goal.opened_behind-requires-clause-within
opened_behind-requires-clause-within g c =
    subst (λ (b : List ℕ). c.in-Ok.found.end.used ≤ length b) (sym c.as_slice.ensures)
    (found_within c.args.left.now c.in-Ok.found c.in-Ok.ensures.finds).1

pub returns-in-Ok-clause-opens : goal.returns-in-Ok-clause-opens
returns-in-Ok-clause-opens g c =
    opens_there c.args.left.now c.in-Ok.found c.args.drops c.in-Ok.ensures.finds c.opened_behind.result
    (subst (λ (b : List ℕ). OpensBehind b c.in-Ok.found c.args.drops c.opened_behind.result) c.as_slice.ensures
    c.opened_behind.ensures)

pub returns-in-Ok-clause-within : goal.returns-in-Ok-clause-within
returns-in-Ok-clause-within g c =
    opened_so (λ (l : FoundLog). StandsWithin l.kernel (length c.args.left.now)) c.args.left.now c.in-Ok.found
    c.args.drops
    c.opened_behind.result
    (subst (λ (b : List ℕ). OpensBehind b c.in-Ok.found c.args.drops c.opened_behind.result) c.as_slice.ensures
    c.opened_behind.ensures)
    c.in-Ok.ensures.within

pub returns-in-Ok-clause-survives : goal.returns-in-Ok-clause-survives
returns-in-Ok-clause-survives g c =
    opened_so (GoesOnAt c.args.left.now) c.args.left.now c.in-Ok.found c.args.drops c.opened_behind.result
    (subst (λ (b : List ℕ). OpensBehind b c.in-Ok.found c.args.drops c.opened_behind.result) c.as_slice.ensures
    c.opened_behind.ensures)
    c.in-Ok.ensures.survives

pub returns-in-Ok-clause-headed : goal.returns-in-Ok-clause-headed
returns-in-Ok-clause-headed g c =
    opened_headed c.args.left.now c.in-Ok.found c.args.drops c.opened_behind.result
    (subst (λ (b : List ℕ). OpensBehind b c.in-Ok.found c.args.drops c.opened_behind.result) c.as_slice.ensures
    c.opened_behind.ensures)

pub returns-in-Ok-clause-exact : goal.returns-in-Ok-clause-exact
returns-in-Ok-clause-exact g c =
    opened_so (IsExactlyFound c.args.left.now) c.args.left.now c.in-Ok.found c.args.drops c.opened_behind.result
    (subst (λ (b : List ℕ). OpensBehind b c.in-Ok.found c.args.drops c.opened_behind.result) c.as_slice.ensures
    c.opened_behind.ensures)
    c.in-Ok.ensures.exact
