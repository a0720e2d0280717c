use Rattle.std.proofs.Common.{sym, subst, ap}
use Rattle.rq_record.specs.Views.{record_of}
use Rattle.rq_standing.specs.Units.{AreUnits}
use Rattle.rq_standing.specs.declared.open_units.OpenUnits.{OpenUnits}
use Rattle.rq_standing.specs.declared.queues.Queues.{Queues}
use Rattle.rq_standing.proofs.Acting.{one_of, one_moved}
use Rattle.rq_standing.proofs.Units.{operation, units_engaged}
use Rattle.rq_standing.proofs.queues.Queues.enqueue.Goals as goal

pub returns-clause-moved : goal.returns-clause-moved
returns-clause-moved c = λ version s may.
    let r = record_of c.args.what.now in
    let law = c.step_by_parts.ensures.step in
    let acted = c.in_ok-act.ensures in
    let engaged = c.in_ok-engage.ensures in
    let it = operation r c.args.unit.0 c.args.queue.0 c.requires.by c.requires.named in
    one_moved law s r c.args.queue.0 c.args.self.now c.act.new.self c.engage.new.self may.holds c.requires.named
    acted.frame acted.size acted.acted
    (units_engaged law s r c.args.unit.0 c.args.queue.0 c.act.new.self.units c.engage.new.self
    (one_of s r c.args.queue.0 c.requires.named).units
    it (it.opened version s may.lawful) engaged.opened engaged.engaged
    (subst (λ (x : OpenUnits). AreUnits x s) (sym (ap (λ (q : Queues). q.units) acted.frame)) may.holds.units))
