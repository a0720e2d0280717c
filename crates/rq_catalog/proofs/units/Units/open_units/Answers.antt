use Rattle.std.proofs.Common.{◌∙◌, subst, ◌≡◌, ◌<◌, length, get_or}
use Rattle.rq_catalog.proofs.Rising.{Rises, open_next}
use Rattle.rq_catalog.proofs.units.Units.open_units.Goals as goal

pub loop-unit-preserved : goal.loop-unit-preserved
loop-unit-preserved c =
    let i = c.loop-unit.unit-index in
    let x = c.unit-item.result in
    let same = c.deref-unit-items.ensures.value ∙ c.self.view_is in
    open_next c.args.self.now i x _ _ (subst Rises c.self.view_is c.self.invariant)
    (subst (λ us. i < length us) same c.loop-unit-test.true) (subst (λ us. x ≡ get_or us i x) same c.unit-item.is)
    c.loop-unit.invariant c.in_ok-push_open.ensures.opened
