use Rattle.std.proofs.Common.{◌≡◌, ℕ, ◌-◌, ◌≤◌, Bool, true, false, List, length, refl, ap, subst, sym, arith}
use Rattle.std.specs.Bool.{then_some}
use Rattle.rq_front.specs.declared.spans.Span.{Span}
use Rattle.rq_front.specs.Chains.{rest_of}
use Rattle.rq_judged.specs.Views.{why_of}
use Rattle.rq_judged.specs.declared.ends.Why.{Why}
use Rattle.rq_judged.specs.Passes.{stays}
use Rattle.rq_judged.specs.Windows.{AreFramed, IsLasting}
use Rattle.rq_judged.proofs.Pieces.{framed, has_place, known, settled}
use Rattle.rq_judged.proofs.window.WindowPass.look.Goals as goal

lasts : (why : Why) (b : Bool) → b ≡ stays (why_of why) → IsLasting (why_of why) (then_some b why)
lasts why false is = tt
lasts why true is = (refl, sym is)

pub judge_frames-requires-clause-frames : goal.judge_frames-requires-clause-frames
judge_frames-requires-clause-frames g c =
    let (o, x, h) = c.requires.follows in
    let f = c.args.self.now in
    let (after, within, small, short, head) = has_place o x f h in
    let found = c.in_ok-found.found in
    let rest = rest_of found.rest in
    let inside : f.place ≤ length c.deref.result.now = omega (arith, within, ap length c.deref.ensures.value) in
    let there = framed c.deref.result.now f.place found.spans.items found.end rest after inside
    c.in_ok-found.ensures.run c.in_ok-found.ensures.spans in
    let here = subst (λ (b : List ℕ). AreFramed b f.place found.spans.items found.end rest) c.deref.ensures.value
    there in (
      found.end,
      rest,
      subst (λ (ss : List Span). AreFramed f.window.items f.place ss found.end rest) (sym c.deref-2.ensures.value) here,
      c.why_of.ensures,
    )

pub overflow_sub-self : goal.overflow_sub-self
overflow_sub-self g c =
    let (o, x, h) = c.requires.follows in
    let (rs, rest, at, ends) = c.in_ok-why.ensures.stops o x h in
    omega (arith, at.within, c.len.ensures)

pub overflow_sub-self-2 : goal.overflow_sub-self-2
overflow_sub-self-2 g c =
    let (o, x, h) = c.requires.follows in
    let (rs, rest, at, ends) = c.in_ok-why.ensures.stops o x h in
    omega (arith, at.within, at.small, c.len.ensures)

pub returns-clause-stopped : goal.returns-clause-stopped
returns-clause-stopped g c = λ o x h.
    let f = c.judge_frames.new.self in
    let long : c.len.result ≡ length f.window.items = omega (arith, c.len.ensures) in
    let used : f.total - (c.len.result - f.place) ≡ f.total - (length f.window.items - f.place) =
    ap (λ (n : ℕ). f.total - (n - f.place)) long in
    settled o x f (why_of c.in_ok-why.why) c.then_some-self.result _ _ c.judge_frames.ensures.going used
    (subst (IsLasting (why_of c.in_ok-why.why)) (sym c.then_some-self.ensures)
    (lasts c.in_ok-why.why c.stays.result c.stays.ensures)) (c.in_ok-why.ensures.stops o x h)

pub returns-in-Some-clause-stopped : goal.returns-in-Some-clause-stopped
returns-in-Some-clause-stopped g c = λ o x h. known o x c.args.self.now _ c.in-Some.is h
