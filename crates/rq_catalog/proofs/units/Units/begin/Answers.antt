use Rattle.std.proofs.Common.{ap, ◌∙◌, sym, subst, cond, nat_eq, Some}
use Rattle.rq_catalog.specs.declared.units.Outcome.TheVariants.{Open}
use Rattle.rq_catalog.specs.Units.{outcome_at, engages_at}
use Rattle.rq_catalog.proofs.Rising.{Rises, begun, rises_more, outcomes_more, engaged_alike}
use Rattle.rq_catalog.proofs.units.Units.begin.Goals as goal

pub invariant_of-self-2 : goal.invariant_of-self-2
invariant_of-self-2 c = subst Rises (sym c.in_ok-push.ensures.items) (rises_more _ _ (rw c.self.view_is c.requires)
    c.self.invariant)

pub returns-clause-outcomes : goal.returns-clause-outcomes
returns-clause-outcomes c =
    λ u. ap (λ us. outcome_at us u) c.in_ok-push.ensures.items
    ∙ outcomes_more c.self.inside.list.items (begun c.args.number c.new.result) (rw c.self.view_is c.requires) u
    ∙ ap (λ us. cond (nat_eq c.args.number u) (Some Open) (outcome_at us u)) c.self.view_is

pub returns-clause-engaged : goal.returns-clause-engaged
returns-clause-engaged c =
    λ u q. ap (λ us. engages_at us u q) c.in_ok-push.ensures.items
    ∙ engaged_alike c.self.inside.list.items (begun c.args.number c.new.result) (rw c.self.view_is c.requires)
    c.new.ensures.items u q ∙ ap (λ us. engages_at us u q) c.self.view_is
