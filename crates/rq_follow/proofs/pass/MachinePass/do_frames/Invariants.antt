use Rattle.std.proofs.Common.{◌≡◌, ℕ, List, drop}
use Rattle.rq_model.specs.Frames as frames
use Rattle.rq_judged.specs.Windows.{AreFramed, Origin}
use Rattle.rq_follow.specs.Passes.{HasComeBehind}
use Rattle.rq_follow.proofs.pass.MachinePass.do_frames.Given as goal

abbrev pub invariant-loop-span : goal.invariant-loop-span
invariant-loop-span l =
    (l.self.window ≡ l.fn.self.window)
    × ((o : Origin) (x : List ℕ) → HasComeBehind o x l.fn.self → HasComeBehind o x l.self)
    × ((end : ℕ) (rest : frames.Rest)
    → AreFramed l.fn.self.window.items l.fn.self.place l.spans end rest
    → AreFramed l.self.window.items l.self.place (drop l.span-index l.spans) end rest)
