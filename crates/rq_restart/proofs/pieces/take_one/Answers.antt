use Rattle.std.proofs.Common.{◌≡◌, sym, subst}
use Rattle.rq_record.specs.Views.{record_of, version_of}
use Rattle.rq_standing.specs.Machines.{IsDone, state_after}
use Rattle.rq_restart.proofs.pieces.take_one.Goals as goal

pub returns-in-Ok-Done-clause-takes : goal.returns-in-Ok-Done-clause-takes
returns-in-Ok-Done-clause-takes c =
    let s = c.args.machine.now in
    let r = record_of c.args.rec.now in
    record {
      judged = sym (subst (IsDone (version_of c.args.version) s r) c.in-Ok-Done.field-0-is c.in-Ok-Done.ensures.answer).0;
      state = subst (λ taken. c.take.new.self ≡ state_after s r taken) c.in-Ok-Done.field-0-is c.in-Ok-Done.ensures.state;
    }

pub returns-in-Ok-Unlawful-clause-takes : goal.returns-in-Ok-Unlawful-clause-takes
returns-in-Ok-Unlawful-clause-takes c =
    let s = c.args.machine.now in
    let r = record_of c.args.rec.now in
    record {
      judged = sym (subst (IsDone (version_of c.args.version) s r) c.in-Ok-Unlawful.field-0-is
          c.in-Ok-Unlawful.ensures.answer).0;
      state = subst (λ taken. c.take.new.self ≡ state_after s r taken) c.in-Ok-Unlawful.field-0-is
          c.in-Ok-Unlawful.ensures.state;
    }
