use Rattle.std.proofs.Common.{subst}
use Rattle.rq_model.specs.Machine.{is_lawful, step}
use Rattle.rq_record.specs.Views.{record_of, version_of}
use Rattle.rq_standing.specs.Stands.{HoldsState, May}
use Rattle.rq_standing.proofs.OneState.{one_state, are_one, lawful_then}
use Rattle.rq_standing.proofs.machine.Machine.take.Goals as goal
use Rattle.rq_standing.proofs.machine.Machine.take.Goals.{In-Ok}

may : (c : In-Ok) → May c.self.inside.queues (version_of c.args.version) c.args.self.now (record_of c.args.what.now)
may c =
    let holds = subst (HoldsState c.self.inside.queues) c.self.view_is c.self.invariant.holds in
    record {
      holds = holds;
      lawful = lawful_then c.broken.result (is_lawful (version_of c.args.version) c.args.self.now (record_of c.args.what.now))
          c.in_default.is (c.broken.ensures.exact c.args.self.now holds);
    }

moved : (c : In-Ok) → HoldsState c.take.new.self (step c.args.self.now (record_of c.args.what.now))
moved c = c.in-Ok.ensures.holds (version_of c.args.version) c.args.self.now (may c)

pub invariant_of-self : goal.invariant_of-self
invariant_of-self c =
    let d = (goal.at.invariant_of-self c).In-Ok in
    are_one c.parts_make_the_state.ensures c.any_order_makes_the_state.ensures c.take.new.self
    (step c.args.self.now (record_of c.args.what.now)) c.numbers_rise.ensures (moved d)

pub returns-in-Ok-clause-answer : goal.returns-in-Ok-clause-answer
returns-in-Ok-clause-answer c =
    let d = (goal.at.returns-in-Ok-clause-answer c).In-Ok in
    ((may d).lawful, c.in-Ok.ensures.took (version_of c.args.version) c.args.self.now (may d))

pub returns-in-Ok-clause-state : goal.returns-in-Ok-clause-state
returns-in-Ok-clause-state c =
    let d = (goal.at.returns-in-Ok-clause-state c).In-Ok in
    one_state c.parts_make_the_state.ensures c.any_order_makes_the_state.ensures c.take.new.self
    (step c.args.self.now (record_of c.args.what.now)) c.numbers_rise.ensures (moved d)
