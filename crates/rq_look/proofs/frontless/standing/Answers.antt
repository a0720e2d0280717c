use Rattle.std.proofs.Common.{ℕ, length, arith, subst}
use Rattle.rq_behind.specs.Behind.{StandApart}
use Rattle.rq_look.specs.Findings.{IsBehind}
use Rattle.rq_look.proofs.frontless.standing.Goals as goal

pub standing_behind-requires : goal.standing_behind-requires
standing_behind-requires c =
    let used = c.in_ok-end.ensures.used in (omega (arith, used), omega (arith, used))

pub returns-clause-behind : goal.returns-clause-behind
returns-clause-behind c =
    subst (λ (used : ℕ). IsBehind c.args.log.now.bytes.now used c.in_ok-found.found) c.in_ok-end.ensures.used
    c.in_ok-found.ensures.found

pub returns-clause-apart : goal.returns-clause-apart
returns-clause-apart c =
    let b = c.args.log.now.bytes.now in
    subst (λ (used : ℕ). StandApart used (length b) c.in_ok-found.found.spans.items) c.in_ok-end.ensures.used
    c.in_ok-found.ensures.apart
