use Rattle.std.proofs.Common.{◌≡◌, ℕ, List, None, drop}
use Rattle.rq_model.specs.Frames as frames
use Rattle.rq_judged.specs.Windows.{AreFramed, IsFed, Origin}
use Rattle.rq_judged.proofs.window.WindowPass.judge_frames.Given as goal

abbrev pub invariant-loop-span : goal.invariant-loop-span
invariant-loop-span l =
    (l.self.window ≡ l.fn.self.window)
    × (l.self.ended ≡ None)
    × ((o : Origin) (x : List ℕ) → IsFed o x l.fn.self → IsFed o x l.self)
    × ((end : ℕ) (rest : frames.Rest)
    → AreFramed l.fn.self.window.items l.fn.self.place l.spans end rest
    → AreFramed l.self.window.items l.self.place (drop l.span-index l.spans) end rest)
