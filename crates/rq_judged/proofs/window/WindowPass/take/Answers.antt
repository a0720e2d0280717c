use Rattle.std.proofs.Common.{refl}
use Rattle.rq_judged.proofs.Pieces.{added, counted}
use Rattle.rq_judged.proofs.window.WindowPass.take.Goals as goal

pub returns-in-Some-clause-taken : goal.returns-in-Some-clause-taken
returns-in-Some-clause-taken c = λ o x h.
    counted o x c.args.more.now c.args.self.now _ refl c.requires.short _ c.in-Some.is h

pub returns-in_ok-extend_from_slice-in-None-clause-taken : goal.returns-in_ok-extend_from_slice-in-None-clause-taken
returns-in_ok-extend_from_slice-in-None-clause-taken c = λ o x h.
    added o x c.args.more.now c.args.self.now _ refl c.requires.short _ refl
    c.in_ok-extend_from_slice-in-None.ensures.items c.in-None.is h
