use Rattle.std.proofs.Common.{rules, arith, ◌≡◌, Bool, true, false, cond, ◌||◌, refl, ap, sym, ◌∙◌, get_or, map, take}
use Rattle.std.proofs.Common.{nat_eq}
use Rattle.std.specs.Prelude.{◌==◌}
use Rattle.std.specs.List.{list_any}
use Rattle.std.specs.Ordering.{nat_cmp}
use Rattle.std.specs.BTreeSet as ordered
use Rattle.rq_record.specs.declared.record.UnitNo.{UnitNo}
use Rattle.rq_state.specs.Views.{unit_of}
use Rattle.rq_catalog.proofs.Runs.{any_push}
use Rattle.rq_catalog.proofs.Seen.{one_more}
use Rattle.rq_catalog.proofs.start.open_units_of.Goals as goal

either : (a b : Bool) → cond b true a ≡ (a || b)
either true true = refl
either false true = refl
either true false = refl
either false false = refl

pub loop-unit-preserved : goal.loop-unit-preserved
loop-unit-preserved c = λ u.
    let zero : UnitNo = record { 0 = 0 } in
    let us = c.args.units.now in
    let i = c.loop-unit.unit-index in
    let n = (get_or us i zero).0 in
    let put : ordered.contains nat_cmp c.insert.new.self u
    ≡ cond (nat_eq n u) true (ordered.contains nat_cmp c.loop-unit.set u) = search rules in
    put ∙ ap (cond (nat_eq n u) true) (c.loop-unit.invariant u)
    ∙ either (list_any (λ v. v == u) (map unit_of (take i us))) (nat_eq n u)
    ∙ sym (any_push (λ v. v == u) (map unit_of (take i us)) n)
    ∙ ap (list_any (λ v. v == u)) (one_more us i zero (omega (arith, c.loop-unit-test.true)))
