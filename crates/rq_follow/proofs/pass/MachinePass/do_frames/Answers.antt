use Rattle.std.proofs.Common.{◌≡◌, ℕ, List, [], ◌∷◌, ◌++◌, drop, subst, get_or, arith}
use Rattle.std.proofs.lemmas.List.{drop_all}
use Rattle.rq_model.specs.Records.{Version}
use Rattle.rq_front.specs.declared.spans.Span.{Span}
use Rattle.rq_front.specs.Chains.{body_at}
use Rattle.rq_record.specs.Views.{version_of}
use Rattle.rq_judged.proofs.Windows.{next_span}
use Rattle.rq_judged.specs.Views.{why_of}
use Rattle.rq_judged.specs.Windows.{AreFramed, Origin}
use Rattle.rq_follow.specs.declared.pass.Finding.{Finding}
use Rattle.rq_follow.specs.declared.pass.Finding.TheVariants.{Lawful, Unlawful, NoRecord}
use Rattle.rq_follow.specs.Passes.{HasComeBehind, IsMadeOf}
use Rattle.rq_follow.proofs.Frames.{Meets, few_records, one_frame, stops_at_form, stops_at_law, stops_behind}
use Rattle.rq_follow.proofs.pass.MachinePass.do_frames.Goals as goal
use Rattle.rq_follow.proofs.pass.MachinePass.do_frames.Goals.{In_ok-do_one}

abbrev none : Span
none = record { start = 0; len = 0 }

met : (c : In_ok-do_one) (v : Finding) → c.in_ok-do_one.field-0 ≡ v → (o : Origin) (x : List ℕ)
    → HasComeBehind o x c.args.self.now
    → Meets o x c.loop-span.self (get_or c.args.spans.now c.loop-span.span-index none) c.do_one.new.machine v
met c v is o x h =
    let f = c.loop-span.self in
    let span = get_or c.args.spans.now c.loop-span.span-index none in
    let (end, rest, framed, why) = c.requires.frames in
    let (rs, left, at) = c.loop-span.invariant.1 o x h in
    record {
      rs = rs;
      rest = left;
      at = at;
      next = (next_span c.frames_are_right.ensures.right f.window.items f.place c.args.spans.now
          c.loop-span.span-index none end rest (omega (arith, c.loop-span-test.true))
          (c.loop-span.invariant.2 end rest framed)).0;
      verdict = subst (λ (b : List ℕ). IsMadeOf o.version f.machine (body_at b span) c.do_one.new.machine v)
          c.deref.ensures.value
          (subst (λ (own : Version). IsMadeOf own f.machine (body_at c.deref.result.now span) c.do_one.new.machine v)
          at.rules
          (subst (IsMadeOf (version_of f.version) f.machine (body_at c.deref.result.now span) c.do_one.new.machine) is
          c.in_ok-do_one.ensures.verdict));
    }

pub overflow_add-self : goal.overflow_add-self
overflow_add-self c =
    let (o, x, h) = c.requires.passed in
    omega (arith, few_records o x c.loop-span.self (c.loop-span.invariant.1 o x h))

pub loop-span-preserved : goal.loop-span-preserved
loop-span-preserved c =
    let right = c.frames_are_right.ensures.right in
    let f = c.loop-span.self in
    let inv = c.loop-span.invariant in (
      inv.0,
      λ o x h. let m = met (goal.at.loop-span-preserved c).In_ok-do_one Lawful c.in-Lawful.is o x h in
          (m.rs ++ m.verdict.0 ∷ [], _, one_frame right o x m.rs m.rest f m.at _ m.next _ m.verdict),
      λ last after stand. (next_span right f.window.items f.place c.args.spans.now c.loop-span.span-index none last
          after (omega (arith, c.loop-span-test.true)) (inv.2 last after stand)).1,
    )

pub returns-in-Unlawful-clause-stops : goal.returns-in-Unlawful-clause-stops
returns-in-Unlawful-clause-stops c = λ o x h.
    let m = met (goal.at.returns-in-Unlawful-clause-stops c).In_ok-do_one Unlawful c.in-Unlawful.is o x h in
    stops_at_law c.frames_are_right.ensures.right o x m.rs m.rest c.loop-span.self m.at _ m.next _ m.verdict

pub returns-in-NoRecord-clause-stops : goal.returns-in-NoRecord-clause-stops
returns-in-NoRecord-clause-stops c = λ o x h.
    let m = met (goal.at.returns-in-NoRecord-clause-stops c).In_ok-do_one NoRecord c.in-NoRecord.is o x h in
    stops_at_form c.frames_are_right.ensures.right o x m.rs m.rest c.loop-span.self m.at _ m.next _ m.verdict

pub returns-clause-stops : goal.returns-clause-stops
returns-clause-stops c = λ o x h.
    let f = c.loop-span.self in
    let spans = c.args.spans.now in
    let inv = c.loop-span.invariant in
    let (end, rest, framed, why) = c.requires.frames in
    let nothing : drop c.loop-span.span-index spans ≡ [] =
    drop_all c.loop-span.span-index spans (omega (arith, c.loop-span-test.false)) in
    stops_behind o x f end rest (why_of c.args.behind)
    (subst (λ (ss : List Span). AreFramed f.window.items f.place ss end rest) nothing (inv.2 end rest framed)) why
    (inv.1 o x h)
