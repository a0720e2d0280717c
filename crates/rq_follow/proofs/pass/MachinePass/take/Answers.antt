use Rattle.std.proofs.Common.{◌≤◌, ◌+◌, ◌++◌, ℕ, List, length, ap, ◌∙◌, arith, refl}
use Rattle.std.proofs.lemmas.Result.{on_ok_weaker}
use Rattle.rq_model.specs.Frames.{log_limit}
use Rattle.rq_judged.specs.Views.{why_of}
use Rattle.rq_judged.specs.Windows.{Origin}
use Rattle.rq_follow.specs.Passes.{HasDoneAll, HasComeBehind}
use Rattle.rq_follow.proofs.Windows.{added, has_place, passed}
use Rattle.rq_follow.proofs.pass.MachinePass.take.Goals as goal
use Rattle.rq_follow.proofs.pass.MachinePass.take.Goals.{In_ok-extend_from_slice}

-- the window with what came
more_passed : (g : _) (c : In_ok-extend_from_slice g) (o : Origin) (x : List ℕ) → HasDoneAll o x c.args.self.now
    → HasComeBehind o (x ++ c.args.more.now) (record c.args.self.now {
      total = c.args.self.now.total + length c.args.more.now;
      window = c.extend_from_slice.new.self;
    })
more_passed g c o x h =
    let f = c.args.self.now in
    let there = passed o x f (why_of f.why) h in
    let (after, within, small, short, head) = has_place o x f there in
    let fits : f.total + length c.args.more.now ≤ log_limit =
    omega (arith, short, c.if-more-saturating_sub.false, c.saturating_sub.ensures) in
    added o x c.args.more.now f
    (record f { total = f.total + length c.args.more.now; window = c.extend_from_slice.new.self })
    (f.total + length c.args.more.now) refl fits refl
    (c.in_ok-extend_from_slice.ensures.items ∙ ap (λ (z : List ℕ). z ++ c.args.more.now) c.make_smaller.ensures) there

pub do_all-requires-clause-passed : goal.do_all-requires-clause-passed
do_all-requires-clause-passed g c κs within =
    let (o, x, h) = c.requires.fed in (
      o,
      x ++ c.args.more.now,
      more_passed g (goal.at.do_all-requires-clause-passed g c).In_ok-extend_from_slice o x h,
    )

pub returns-clause-taken : goal.returns-clause-taken
returns-clause-taken g c =
    on_ok_weaker c.do_all.result (λ fed. λ o x h.
    fed o (x ++ c.args.more.now) (more_passed g (goal.at.returns-clause-taken g c).In_ok-extend_from_slice o x h))
    c.do_all.ensures.fed
