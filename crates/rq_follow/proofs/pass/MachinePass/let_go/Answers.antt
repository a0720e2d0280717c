use Rattle.std.proofs.Common.{rules, ◌≡◌, ◌<◌, ◌-◌, ◌++◌, take, drop, refl, arith}
use Rattle.rq_judged.specs.Views.{why_of}
use Rattle.rq_follow.proofs.Windows.{shorter}
use Rattle.rq_follow.proofs.pass.MachinePass.let_go.Goals as goal

pub drain-requires-clause-in_bounds : goal.drain-requires-clause-in_bounds
drain-requires-clause-in_bounds c =
    let (o, x, h) = c.requires in
    let (rs, rest, at, ends) = h in
    omega (arith, at.within)

pub returns : goal.returns
returns c = λ o x h.
    let f = c.args.self.now in
    let w = f.window.items in
    let is : c.drop-drain.new.self.0.items ≡ take 40 w ++ drop (f.place - 32) w = search (rules) in
    let far : 72 < f.place = omega (arith, c.if-self.false) in
    shorter o x f (record f { window = c.drop-drain.new.self.0; place = 72 }) far refl is (why_of f.why) h
