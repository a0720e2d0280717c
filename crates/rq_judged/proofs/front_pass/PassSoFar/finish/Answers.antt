use Rattle.std.proofs.Common.{◌≤◌, ℕ, length, subst, sym, ◌∙◌, arith}
use Rattle.rq_judged.specs.Views.{why_of}
use Rattle.rq_judged.specs.Passes.{StopsIn}
use Rattle.rq_judged.proofs.Passes.{stops_there}
use Rattle.rq_judged.proofs.front_pass.PassSoFar.finish.Goals as goal
use Rattle.rq_judged.proofs.front_pass.PassSoFar.finish.Goals.{then-limit-bytes-via-then-limit-bytes}
use Rattle.rq_judged.proofs.front_pass.PassSoFar.finish.Goals.{then-limit-bytes-via-else-limit-bytes+then-stays}

pub go_on-requires-clause-passes : goal.go_on-requires-clause-passes
go_on-requires-clause-passes g c κs within =
    (c.requires.passes.0, c.windows.invariant.2 c.requires.passes.0 c.requires.passes.1)

pub returns-then-limit-bytes-clause-stops : goal.returns-then-limit-bytes-clause-stops
returns-then-limit-bytes-clause-stops g c = λ version passes.
    let b = c.args.bytes.now in
    let stop = c.in_ok-why.ensures.stops version (c.windows.invariant.2 version passes) in
    let high : c.min-limit.result ≤ length b = omega (arith, c.min-limit.ensures) in
    elim c.then-limit-bytes.branch [
      | then-limit-bytes-via-then-limit-bytes w ↦ subst
          (λ (n : ℕ). StopsIn version b n c.go_on.new.self (why_of c.in_ok-why.why)) w.if-limit-bytes.true stop
      | then-limit-bytes-via-else-limit-bytes+then-stays w ↦
          stops_there version b c.min-limit.result c.go_on.new.self
          (why_of c.in_ok-why.why) c.in_ok-why.ensures.offset high (sym w.stays.ensures ∙ w.if-stays.true) stop
    ]

pub windows-preserved : goal.windows-preserved
windows-preserved g c = (
  c.in_ok-why.ensures.offset,
  omega (arith, c.min-limit.ensures),
  λ version passes. let stop = c.in_ok-why.ensures.stops version (c.windows.invariant.2 version passes) in
      (stop.0, stop.1),
)
