use Rattle.std.proofs.Common.{refl, ap, ◌∙◌, length, arith}
use Rattle.rq_model.specs.Frames.{before}
use Rattle.rq_judged.proofs.Pieces.{stopped_front}
use Rattle.rq_judged.proofs.window.stopped.Goals as goal

pub before-last-requires-clause-after : goal.before-last-requires-clause-after
before-last-requires-clause-after g c =
    let (o, x, h) = c.requires.follows in
    let (rs, rest, at, ends, counted) = c.in_ok-why.ensures.stopped o x h in
    omega (arith, at.after)

pub before-last-requires-clause-within : goal.before-last-requires-clause-within
before-last-requires-clause-within g c =
    let (o, x, h) = c.requires.follows in
    let (rs, rest, at, ends, counted) = c.in_ok-why.ensures.stopped o x h in
    omega (arith, at.within, ap length c.deref.ensures.value)

pub returns-clause-stopped : goal.returns-clause-stopped
returns-clause-stopped g c = λ o x h.
    let f = c.look.new.self in
    stopped_front o x f c.in_ok-why.why _ refl (c.before-last.ensures ∙ ap (before f.place) c.deref.ensures.value)
    refl refl refl (c.in_ok-why.ensures.stopped o x h)
