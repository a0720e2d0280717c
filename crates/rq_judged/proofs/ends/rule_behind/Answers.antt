use Rattle.std.proofs.Common.{drop, subst, sym}
use Rattle.rq_model.specs.Spelling.{Spells}
use Rattle.rq_model.specs.Fronts.{IsWhy}
use Rattle.rq_judged.specs.Views.{why_of}
use Rattle.rq_judged.specs.declared.ends.Why.{Why}
use Rattle.rq_judged.proofs.ends.rule_behind.Goals as goal

pub body_at-requires : goal.body_at-requires
body_at-requires c =
    let (version, s, stands, p, ends) = c.requires in
    let law = subst (λ (w : Why). IsWhy version s p (drop c.args.front.now.end.used c.args.bytes.now) (why_of w))
    c.in-Law.is ends in
    law.0.whole

pub rule_of-requires : goal.rule_of-requires
rule_of-requires c =
    let (version, s, stands, p, ends) = c.requires in
    let law = subst (λ (w : Why). IsWhy version s p (drop c.args.front.now.end.used c.args.bytes.now) (why_of w))
    c.in-Law.is ends in
    let spells = subst (Spells version law.1) (sym c.body_at.ensures) law.2 in
    (version, s, stands, law.1, spells, law.3)
