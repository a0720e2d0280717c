use Rattle.std.proofs.Common.{◌≡◌, ◌+◌, ◌≤◌, ◌++◌, ◌∷◌, [], ◌∙◌, List, ℕ, length, get_or, map, take, refl, ap, sym, subst, arith}
use Rattle.std.proofs.lemmas.Bool.Decides.{nat_tests}
use Rattle.std.proofs.lemmas.List.{map_more, map_push, take_all}
use Rattle.rq_model.specs.Records.{Record, Abort}
use Rattle.rq_model.specs.Machine.{run}
use Rattle.rq_record.specs.declared.record.UnitNo.{UnitNo}
use Rattle.rq_state.specs.Views.{unit_of}
use Rattle.rq_journal.specs.Growths.{GrowsBy}
use Rattle.rq_journal.proofs.Marking.{grows_none, grows_one_more, runs_one_more}
use Rattle.rq_journal.proofs.growths.Growth.end_each.Goals as goal

pub loop-unit-init : goal.loop-unit-init
loop-unit-init c = (grows_none c.args.self.now, refl, refl)

pub loop-unit-preserved : goal.loop-unit-preserved
loop-unit-preserved c =
    let a = c.args.self.now in
    let s = c.args.machine.now in
    let i = c.loop-unit.unit-index in
    let us : List UnitNo = c.args.units.now in
    let d : UnitNo = record { 0 = 0 } in
    let u = unit_of (get_or us i d) in
    let first : List ℕ = map unit_of (take i us) in
    let more : map unit_of (take (i + 1) us) ≡ first ++ u ∷ [] = map_more unit_of us i d c.loop-unit-test.true in
    let all : map Abort (map unit_of (take (i + 1) us)) ≡ map Abort first ++ Abort u ∷ [] =
    ap (map Abort) more ∙ map_push Abort first u in (
      subst (GrowsBy a c.end_unit.new.self) (sym all) (grows_one_more a c.loop-unit.self c.end_unit.new.self
          (map Abort first) (Abort u) c.loop-unit.invariant.0 c.in_ok-end_unit.ensures.grown),
      subst (λ (ys : List Record). c.end_unit.new.machine ≡ run s ys) (sym all) (runs_one_more s c.loop-unit.machine
          c.end_unit.new.machine (map Abort first) (Abort u) c.loop-unit.invariant.1 c.in_ok-end_unit.ensures.state),
      c.end_unit.ensures.end ∙ c.loop-unit.invariant.2,
    )

pub returns-clause-grown : goal.returns-clause-grown
returns-clause-grown c =
    let us : List UnitNo = c.args.units.now in
    let i = c.loop-unit.unit-index in
    let beyond = c.loop-unit-test.false in
    let all : length us ≤ i = grind (arith, nat_tests, beyond) in
    subst (λ (vs : List UnitNo). GrowsBy c.args.self.now c.loop-unit.self (map Abort (map unit_of vs)))
    (take_all i us all) c.loop-unit.invariant.0
