use Rattle.std.proofs.Common.{rules, ℕ, ◌+◌, List, length, take, ap, subst, arith}
use Rattle.std.proofs.lemmas.List.{length-take}
use Rattle.rq_model.specs.Records.{Record, Version}
use Rattle.rq_front.specs.Chains.{bodies_at}
use Rattle.rq_front.specs.declared.spans.Span.{Span}
use Rattle.rq_model.specs.Machine.{run}
use Rattle.rq_model.specs.States.{empty}
use Rattle.rq_judged.specs.Views.{why_of}
use Rattle.rq_judged.specs.Passes.{AreJudged, HasPassed}
use Rattle.rq_judged.proofs.Passes.{HasGoneOn, gone_on, only_resources}
use Rattle.rq_judged.proofs.front_pass.PassSoFar.go_on.Goals as goal

further : (g : _) (c : goal.After-drop-found-2 g) (version : Version) (rs : List Record)
    → HasPassed version c.args.bytes.now rs c.args.self.now
    → HasGoneOn version c.args.bytes.now c.args.limit c.end_of-end.result.0
    (why_of c.end_of-end.result.1) c.judge_each.new.judge (c.args.self.now.records + c.in_ok-reach.reach.lawful)
further g c version rs has =
    let part : List ℕ = take c.args.limit c.args.bytes.now in
    let found = c.in_ok-found.found in
    let are = subst (λ (ss : List Span). AreJudged version (run empty rs)
    (bodies_at part ss) c.judge_each.new.judge c.in_ok-reach.reach) c.deref.ensures.value
    (c.in_ok-reach.ensures.judged version (run empty rs) has.judge) in
    gone_on version c.frames_join.ensures.end c.frames_join.ensures.log c.frames_join.ensures.frames
    c.frames_are_right.ensures.right c.one_front.ensures.from_run
    c.args.bytes.now rs c.args.self.now c.args.limit found c.judge_each.new.judge c.in_ok-reach.reach
    c.requires.short has c.requires.after c.requires.within
    c.in_ok-found.ensures.run c.in_ok-found.ensures.spans c.in_ok-found.ensures.inside are
    (c.end_of-end.result.0, why_of c.end_of-end.result.1) c.end_of-end.ensures

pub returns-clause-stops : goal.returns-clause-stops
returns-clause-stops g c = λ version passes.
    let it = further g c version passes.0 passes.1 in
    (it.kept, record { passed = it.passed; count = it.count; judge = it.judge }, it.ends)

pub returns-clause-offset : goal.returns-clause-offset
returns-clause-offset g c = (further g c c.requires.passes.0 c.requires.passes.1.0 c.requires.passes.1.1).inside

pub returns-in_err-found-clause-refused : goal.returns-in_err-found-clause-refused
returns-in_err-found-clause-refused g c =
    let has = c.requires.passes.1.1 in
    let only = only_resources c.frames_join.ensures.end c.requires.passes.0 c.args.bytes.now c.requires.passes.1.0
    c.args.self.now.offset c.args.limit c.in_err-found.field-0.0 c.requires.short has.passed c.requires.after
    c.requires.within c.in_err-found.ensures.refused in
    search (rules, only, c.from_residual.ensures)

pub overflow_add-self : goal.overflow_add-self
overflow_add-self g c =
    let has = c.requires.passes.1.1 in
    omega (
      arith,
      has.count,
      has.passed.few,
      c.in_ok-found.ensures.few,
      c.in_ok-reach.ensures.few,
      ap length c.deref.ensures.value,
      length-take c.args.limit c.args.bytes.now,
      c.requires.short,
    )
