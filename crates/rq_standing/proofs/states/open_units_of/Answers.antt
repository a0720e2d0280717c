use Rattle.std.proofs.Common.{◌||◌, ◌&&◌, List, ap, sym, ◌∙◌, arith, map, get_or, refl, false}
use Rattle.std.specs.List.{list_any}
use Rattle.rq_model.specs.States.{Element, Note}
use Rattle.rq_catalog.specs.Units.{is_marked_at, is_noted_at}
use Rattle.rq_catalog.proofs.Seen.{one_more}
use Rattle.rq_standing.specs.Units.{has_open, engages_in}
use Rattle.rq_standing.proofs.Units.{all_begun, all_engaged, one_begun}
use Rattle.std.proofs.lemmas.List.{take_all}
use Rattle.rq_record.specs.declared.record.UnitNo.{UnitNo}
use Rattle.rq_state.specs.Views.{unit_of}
use Rattle.std.specs.Prelude.{◌==◌}
use Rattle.rq_standing.proofs.states.open_units_of.Goals as goal

pub loop-unit-init : goal.loop-unit-init
loop-unit-init c = λ u. c.none-units.ensures u

pub loop-unit-preserved : goal.loop-unit-preserved
loop-unit-preserved c = λ u.
    let zero : UnitNo = record { 0 = 0 } in
    let us = c.units-all.result.now in
    let i = c.loop-unit.unit-index in
    one_begun u (get_or us i zero).0 _ _ false _ _ (sym (one_more us i zero (omega (arith, c.loop-unit-test.true))))
    (c.loop-unit.invariant u) (c.in_ok-begin.ensures.opened u)

pub returns-clause-units : goal.returns-clause-units
returns-clause-units c =
    let marked = c.in_ok-engage_by_marks.ensures.engaged in
    let noted = c.in_ok-engage_by_notes.ensures.engaged in
    all_engaged c.step_by_parts.ensures.step c.args.state.now c.loop-unit.units c.engage_by_marks.new.units
    c.engage_by_notes.new.units c.is_well_formed.ensures
    (λ u. all_begun u _ _ false _ c.units-all.ensures refl (c.loop-unit.invariant u
    ∙ ap (λ (us : List UnitNo). list_any (λ v. v == u) (map unit_of us) || false)
    (take_all c.loop-unit.unit-index c.units-all.result.now (omega (arith, c.loop-unit-test.false)))))
    marked.2 noted.2
    (λ u q. marked.3 u q
    ∙ ap (λ (es : List Element). (has_open c.loop-unit.units u && list_any (is_marked_at u q) es)
    || engages_in c.loop-unit.units u q) c.elements.ensures)
    (λ u q. noted.3 u q
    ∙ ap (λ (ns : List Note). (has_open c.engage_by_marks.new.units u && list_any (is_noted_at u q) ns)
    || engages_in c.engage_by_marks.new.units u q) c.notes.ensures)
