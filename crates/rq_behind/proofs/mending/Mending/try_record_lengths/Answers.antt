use Rattle.std.proofs.Common.{false, refl, subst}
use Rattle.rq_behind.specs.Mending.{IsTried}
use Rattle.rq_behind.proofs.Advances.{tried_none, tried_then, tried_twice}
use Rattle.rq_behind.proofs.mending.Mending.try_record_lengths.Goals as goal

pub places-init : goal.places-init
places-init c = tried_none c.args.self.now

pub places-preserved : goal.places-preserved
places-preserved c =
    subst (IsTried c.args.self.now c.try_record_length.new.self) c.if-branch.false
    (tried_twice c.args.self.now c.places.self c.try_record_length.new.self false c.in_ok-try_record_length.field-0 refl
    c.places.invariant c.in_ok-try_record_length.ensures)

pub returns-then-branch : goal.returns-then-branch
returns-then-branch c =
    subst (IsTried c.args.self.now c.try_record_length.new.self) c.if-branch.true
    (tried_twice c.args.self.now c.places.self c.try_record_length.new.self false c.in_ok-try_record_length.field-0 refl
    c.places.invariant c.in_ok-try_record_length.ensures)

pub returns-then-effort-eq0 : goal.returns-then-effort-eq0
returns-then-effort-eq0 c =
    subst (IsTried c.args.self.now c.try_record_length.new.self) c.if-branch.false
    (tried_twice c.args.self.now c.places.self c.try_record_length.new.self false c.in_ok-try_record_length.field-0 refl
    c.places.invariant c.in_ok-try_record_length.ensures)

pub returns : goal.returns
returns c =
    tried_then c.try_length.result c.args.self.now c.places.self c.try_length.new.self false refl c.places.invariant
    c.try_length.ensures
