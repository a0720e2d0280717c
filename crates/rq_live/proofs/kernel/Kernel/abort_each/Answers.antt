use Rattle.std.proofs.Common.{◌≡◌, ◌+◌, ◌≤◌, ◌++◌, ◌∷◌, [], ◌∙◌, List, ℕ, length, get_or, map, take, ap, sym, subst, arith}
use Rattle.std.proofs.lemmas.Bool.Decides.{nat_tests}
use Rattle.std.proofs.lemmas.List.{map_more, map_push, take_all}
use Rattle.rq_model.specs.Records.{Abort}
use Rattle.rq_record.specs.declared.record.UnitNo.{UnitNo}
use Rattle.rq_state.specs.Views.{unit_of}
use Rattle.rq_live.specs.Kernels.{KernelTakesEach}
use Rattle.rq_live.proofs.Taking.{takes_none, takes_one_more}
use Rattle.rq_live.proofs.kernel.Kernel.abort_each.Goals as goal

pub loop-unit-init : goal.loop-unit-init
loop-unit-init c = takes_none c.args.self.now

pub loop-unit-preserved : goal.loop-unit-preserved
loop-unit-preserved c =
    let a = c.args.self.now in
    let b = c.take.new.self in
    let i = c.loop-unit.unit-index in
    let us : List UnitNo = c.args.units.now in
    let d : UnitNo = record { 0 = 0 } in
    let u = unit_of (get_or us i d) in
    let first : List ℕ = map unit_of (take i us) in
    let more : map unit_of (take (i + 1) us) ≡ first ++ u ∷ [] = map_more unit_of us i d c.loop-unit-test.true in
    let all : map Abort (map unit_of (take (i + 1) us)) ≡ map Abort first ++ Abort u ∷ [] =
    ap (map Abort) more ∙ map_push Abort first u in
    subst (KernelTakesEach a b) (sym all) (takes_one_more a c.loop-unit.self b (map Abort first) (Abort u)
    _ c.loop-unit.invariant c.in-Ok.ensures.taken)

pub returns : goal.returns
returns c =
    let us : List UnitNo = c.args.units.now in
    let i = c.loop-unit.unit-index in
    let beyond = c.loop-unit-test.false in
    let all : length us ≤ i = grind (arith, nat_tests, beyond) in
    subst (λ (vs : List UnitNo). KernelTakesEach c.args.self.now c.loop-unit.self (map Abort (map unit_of vs)))
    (take_all i us all) c.loop-unit.invariant
