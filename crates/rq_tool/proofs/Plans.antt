-- From the words of a line to its plan.
use Rattle.std.proofs.Common.{◌≡◌, ℕ, ◌≤◌, ◌↔◌, List, Option, Some, None, IsSome, IfSome, refl, sym, ap, ◌∙◌, arith}
use Rattle.std.specs.Fmt.{decimal}
use Rattle.std.proofs.lemmas.Fmt.{decimal_injective}
use Rattle.rq_plan.specs.Plans.{workers_of, grain_of}
use Rattle.rq_plan.specs.declared.plan.Plan.{Plan}
use Rattle.rq_tool.specs.Commands.{IsPlan, IsPlanOf, IsWorkersPlanOf}

-- a number of a plan that a word tells is the one that was read
same_number : (text : List ℕ) (n v : ℕ) → text ≡ decimal n → n ≤ 4294967295 → v ≤ 1000000 → text ≡ decimal v → n ≡ v
same_number text n v read small few told =
    decimal_injective n v (omega (arith, small)) (omega (arith, few)) (sym read ∙ told)

pub plan_of : (workers grain : List ℕ) (w g : ℕ) (made : Option Plan) → w ≤ 4294967295 → g ≤ 4294967295
    → workers ≡ decimal w → grain ≡ decimal g
    → (IsSome made ↔ IsPlan w g) → IfSome made (λ p. (workers_of p ≡ w) × (grain_of p ≡ g))
    → IsPlanOf workers grain made
plan_of workers grain w g (Some p) ws gs is_w is_g range h =
    let fits : IsPlan w g = range.0 refl in
    let few : workers_of p ≡ w = h.0 in
    let fine : grain_of p ≡ g = h.1 in (
      (
        omega (arith, fits.0, few),
        omega (arith, fits.1, few),
        omega (arith, fits.2, fine),
        omega (arith, fits.3, fine),
      ),
      is_w ∙ ap decimal (sym few),
      is_g ∙ ap decimal (sym fine),
    )
plan_of workers grain w g None ws gs is_w is_g range h = λ x y fits told_w told_g.
    let few : w ≡ x = same_number workers w x is_w ws (omega (arith, fits.1)) told_w in
    let fine : g ≡ y = same_number grain g y is_g gs (omega (arith, fits.3)) told_g in
    let none : Option Plan = None in
    let back : IsSome none =
    range.1 (
      omega (arith, fits.0, few),
      omega (arith, fits.1, few),
      omega (arith, fits.2, fine),
      omega (arith, fits.3, fine),
    ) in
    absurd (cc)

pub workers_plan_of : (workers : List ℕ) (w : ℕ) (made : Option Plan) → w ≤ 4294967295 → workers ≡ decimal w
    → (IsSome made ↔ IsPlan w 1000) → IfSome made (λ p. (workers_of p ≡ w) × (grain_of p ≡ 1000))
    → IsWorkersPlanOf workers made
workers_plan_of workers w (Some p) ws is_w range h =
    let fits : IsPlan w 1000 = range.0 refl in
    let few : workers_of p ≡ w = h.0 in
    let fine : grain_of p ≡ 1000 = h.1 in (
      (omega (arith, fits.0, few), omega (arith, fits.1, few), omega (arith, fine), omega (arith, fine)),
      fine,
      is_w ∙ ap decimal (sym few),
    )
workers_plan_of workers w None ws is_w range h = λ x fits told_w.
    let few : w ≡ x = same_number workers w x is_w ws (omega (arith, fits.1)) told_w in
    let none : Option Plan = None in
    let back : IsSome none =
    range.1 (omega (arith, fits.0, few), omega (arith, fits.1, few), omega arith, omega arith) in
    absurd (cc)
