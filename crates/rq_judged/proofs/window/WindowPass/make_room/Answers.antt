use Rattle.std.proofs.Common.{rules, ◌≡◌, ◌<◌, ◌-◌, ◌++◌, take, drop, refl, arith}
use Rattle.rq_judged.proofs.Pieces.{shorter}
use Rattle.rq_judged.proofs.window.WindowPass.make_room.Goals as goal

pub drain-requires-clause-in_bounds : goal.drain-requires-clause-in_bounds
drain-requires-clause-in_bounds g c =
    let (o, x, h) = c.requires.follows in
    let (rs, rest, at, ends, counted) = c.in_ok-look.ensures.stopped o x h in
    omega (arith, at.within)

pub returns-then-self-clause-kept : goal.returns-then-self-clause-kept
returns-then-self-clause-kept g c = λ o x h.
    let (rs, rest, at, ends, counted) = c.in_ok-look.ensures.stopped o x h in
    (rs, rest, at)

pub returns-clause-kept : goal.returns-clause-kept
returns-clause-kept g c = λ o x h.
    let (rs, rest, at, ends, counted) = c.in_ok-look.ensures.stopped o x h in
    let f = c.look.new.self in
    let w = f.window.items in
    let is : c.drop-drain.new.self.0.items ≡ take 40 w ++ drop (f.place - 32) w = search (rules) in
    let far : 72 < f.place = omega (arith, c.if-self.false) in
    shorter o x f (record f { window = c.drop-drain.new.self.0; place = 72 }) far refl is (rs, rest, at)
