use Rattle.std.proofs.Common.{false, refl, subst}
use Rattle.rq_behind.specs.Mending.{IsTried}
use Rattle.rq_behind.proofs.Advances.{tried_none, tried_twice}
use Rattle.rq_behind.proofs.mending.Mending.try_lengths.Goals as goal

pub others-init : goal.others-init
others-init c = tried_none c.args.self.now

pub others-preserved : goal.others-preserved
others-preserved c =
    subst (IsTried c.args.self.now c.try_stated.new.self) c.if-branch.false
    (tried_twice c.args.self.now c.others.self c.try_stated.new.self false c.in_ok-try_stated.field-0 refl
    c.others.invariant c.in_ok-try_stated.ensures)

pub returns-then-branch : goal.returns-then-branch
returns-then-branch c =
    subst (IsTried c.args.self.now c.try_stated.new.self) c.if-branch.true
    (tried_twice c.args.self.now c.others.self c.try_stated.new.self false c.in_ok-try_stated.field-0 refl
    c.others.invariant c.in_ok-try_stated.ensures)
