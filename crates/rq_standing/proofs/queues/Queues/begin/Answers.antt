use Rattle.std.proofs.Common.{refl}
use Rattle.rq_standing.proofs.Units.{units_begun}
use Rattle.rq_standing.proofs.queues.Queues.begin.Goals as goal

pub returns-clause-moved : goal.returns-clause-moved
returns-clause-moved c = λ version s may.
    let holds = may.holds in
    let done = c.in_ok-begin.ensures in
    record {
      next = refl;
      greatest = refl;
      committed = holds.committed;
      aborted = holds.aborted;
      definitions = holds.definitions;
      size = holds.size;
      parts = holds.parts;
      units = units_begun c.step_by_parts.ensures.step s c.args.unit.0 c.args.self.now.units c.begin.new.self holds.well
          may.lawful done.opened done.queues holds.units;
    }
