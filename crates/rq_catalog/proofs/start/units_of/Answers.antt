use Rattle.std.proofs.Common.{arith, ap, ◌∙◌, sym, subst, get_or, nat_eq, cond, ◌<◌, ◌++◌, ◌∷◌, [], Some, None}
use Rattle.std.proofs.Common.{if◌then◌else◌}
use Rattle.std.specs.Prelude.{◌==◌}
use Rattle.std.specs.List.{AllByRecursion, list_any}
use Rattle.rq_record.specs.declared.record.UnitNo.{UnitNo}
use Rattle.rq_catalog.specs.declared.units.Outcome.TheVariants.{Open}
use Rattle.rq_catalog.proofs.Seen.{below_next, one_more, one_open}
use Rattle.rq_catalog.proofs.start.units_of.Goals as goal

pub begin-requires : goal.begin-requires
begin-requires c =
    let zero : UnitNo = record { 0 = 0 } in
    subst (AllByRecursion (λ v. v < (get_or c.args.units.now c.loop-unit.unit-index zero).0))
    (sym c.loop-unit.invariant.0)
    (below_next c.args.units.now c.loop-unit.unit-index zero c.requires (omega (arith, c.loop-unit-test.true)))

pub loop-unit-preserved : goal.loop-unit-preserved
loop-unit-preserved c =
    let zero : UnitNo = record { 0 = 0 } in
    let us = c.args.units.now in
    let i = c.loop-unit.unit-index in
    let n = (get_or us i zero).0 in
    let more = one_more us i zero (omega (arith, c.loop-unit-test.true)) in (
      c.in_ok-begin.ensures.numbers ∙ ap (λ l. l ++ n ∷ []) c.loop-unit.invariant.0 ∙ more,
      λ u. c.in_ok-begin.ensures.outcomes u
          ∙ ap (cond (nat_eq n u) (Some Open)) (c.loop-unit.invariant.1 u) ∙ one_open _ n u
          ∙ ap (λ l. if list_any (λ v. v == u) l then Some Open else None) more,
      λ u q. c.in_ok-begin.ensures.engaged u q ∙ c.loop-unit.invariant.2 u q,
    )
