use Rattle.std.proofs.Common.{refl, arith}
use Rattle.rq_record.specs.Views.{version_of}
use Rattle.rq_restart.proofs.Taking.{all_taken, ends_there, one_further}
use Rattle.rq_restart.proofs.pieces.take_each.Goals as goal

pub loop-place-init : goal.loop-place-init
loop-place-init c = (refl, refl)

pub loop-place-preserved : goal.loop-place-preserved
loop-place-preserved c =
    one_further (version_of c.args.version) c.args.machine.now c.loop-place.machine c.take_one.new.machine
    c.args.records.now c.loop-place.place c.index-records-place.result c.in_ok-take_one.field-0 c.loop-place-test.true
    c.index-records-place.is c.loop-place.invariant c.in_ok-take_one.ensures.takes c.if-not-branch.false

pub returns-then-not-branch-clause-went_on : goal.returns-then-not-branch-clause-went_on
returns-then-not-branch-clause-went_on c =
    ends_there (version_of c.args.version) c.args.machine.now c.loop-place.machine c.take_one.new.machine
    c.args.records.now c.loop-place.place c.index-records-place.result c.in_ok-take_one.field-0 c.loop-place-test.true
    c.index-records-place.is c.loop-place.invariant c.in_ok-take_one.ensures.takes c.if-not-branch.true

pub returns-clause-went_on : goal.returns-clause-went_on
returns-clause-went_on c = all_taken (version_of c.args.version) c.args.machine.now c.loop-place.machine
    c.args.records.now c.loop-place.place (omega (arith, c.loop-place-test.false)) c.loop-place.invariant
