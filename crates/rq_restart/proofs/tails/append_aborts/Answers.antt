use Rattle.rq_record.specs.declared.record.UnitNo.{UnitNo}
use Rattle.rq_restart.proofs.Endings.{one_written}
use Rattle.rq_restart.proofs.tails.append_aborts.Goals as goal

pub loop-unit-preserved : goal.loop-unit-preserved
loop-unit-preserved c =
    let d : UnitNo = record { 0 = 0 } in
    one_written c.args.units.now c.loop-unit.unit-index d c.loop-unit.out.items c.append_abort.new.out.items
    c.loop-unit.last c.in_ok-last.last _ c.loop-unit-test.true c.loop-unit.invariant c.in_ok-last.ensures.bytes
    c.in_ok-last.ensures.last
