use Rattle.std.proofs.Common.{◌≡◌, ℕ, ap, arith, inl, inr}
use Rattle.std.proofs.lemmas.Bool.{cases_lt}
use Rattle.rq_lanes.specs.Messages.{held}
use Rattle.rq_lanes.proofs.lanes.Lanes.soonest.Goals as goal
use Rattle.rq_lanes.proofs.lanes.Lanes.soonest.Goals.{then-self-j, else-self-j}

pub lanes-init : goal.lanes-init
lanes-init g c = (
  omega arith,
  λ k lt.
      let e : k ≡ 0 = omega arith in
      let same = ap (λ (i : ℕ). (held c.args.self.now.lanes i).due) e in
      omega (arith, same),
)

pub lanes-preserved : goal.lanes-preserved
lanes-preserved g c =
    let due : ℕ → ℕ = λ i. (held c.args.self.now.lanes i).due in
    elim c.if-self-j.branch [
      | then-self-j w ↦ (
        omega (arith, w.best-is),
        λ k lt.
            let here = ap due w.best-is in
            elim (cases_lt k c.lanes.j) [
              | inl a ↦ omega (arith, here, c.lanes.invariant.1 k a, w.if-self-j.true)
              | inr b ↦
                  let e : k ≡ c.lanes.j = omega arith in
                  omega (arith, here, ap due e)
            ],
      )
      | else-self-j w ↦ (
        omega (arith, w.best-is),
        λ k lt.
            let here = ap due w.best-is in
            elim (cases_lt k c.lanes.j) [
              | inl a ↦ omega (arith, here, c.lanes.invariant.1 k a)
              | inr b ↦
                  let e : k ≡ c.lanes.j = omega arith in
                  omega (arith, here, ap due e, w.if-self-j.false)
            ],
      )
    ]
