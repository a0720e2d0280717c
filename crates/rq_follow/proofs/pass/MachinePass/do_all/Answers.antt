use Rattle.std.proofs.Common.{ℕ, ◌≤◌, List, length, ap, subst, sym, arith}
use Rattle.rq_front.specs.declared.spans.Span.{Span}
use Rattle.rq_front.specs.Chains.{rest_of}
use Rattle.rq_judged.specs.Windows.{AreFramed}
use Rattle.rq_judged.proofs.Pieces.{framed}
use Rattle.rq_follow.proofs.Windows.{has_place, told}
use Rattle.rq_follow.proofs.pass.MachinePass.do_all.Goals as goal

pub do_frames-requires-clause-frames : goal.do_frames-requires-clause-frames
do_frames-requires-clause-frames g c =
    let (o, x, h) = c.requires.passed in
    let f = c.args.self.now in
    let (after, within, small, short, head) = has_place o x f h in
    let found = c.in_ok-found.found in
    let rest = rest_of found.rest in
    let inside : f.place ≤ length c.deref.result.now = omega (arith, within, ap length c.deref.ensures.value) in
    let there = framed c.deref.result.now f.place found.spans.items found.end rest after inside
    c.in_ok-found.ensures.run c.in_ok-found.ensures.spans in
    let here = subst (λ (b : List ℕ). AreFramed b f.place found.spans.items found.end rest) c.deref.ensures.value
    there in (
      found.end,
      rest,
      subst (λ (ss : List Span). AreFramed f.window.items f.place ss found.end rest) (sym c.deref-2.ensures.value) here,
      c.why_behind.ensures,
    )

pub let_go-requires : goal.let_go-requires
let_go-requires g c =
    let (o, x, h) = c.requires.passed in
    (o, x, told o x c.do_frames.new.self c.in_ok-self.field-0 (c.in_ok-self.ensures.stops o x h))

pub returns-clause-fed : goal.returns-clause-fed
returns-clause-fed g c = λ o x h.
    c.let_go.ensures o x (told o x c.do_frames.new.self c.in_ok-self.field-0 (c.in_ok-self.ensures.stops o x h))
