use Rattle.std.proofs.Common.{subst, sym, Bool}
use Rattle.std.specs.Prelude.{if◌then◌else◌}
use Rattle.rq_model.specs.Machine.{step}
use Rattle.rq_record.specs.Views.{record_of}
use Rattle.rq_catalog.specs.Judges.{StandsIn}
use Rattle.rq_catalog.proofs.judge.Judge.take.Goals as goal

pub returns-in_ok-advance-clause-stands : goal.returns-in_ok-advance-clause-stands
returns-in_ok-advance-clause-stands c = λ version s stands.
    subst (λ (b : Bool). StandsIn version c.advance.new.self (if b then step s (record_of c.args.next.now) else s))
    (sym c.if-is_lawful.true) (c.in_ok-advance.ensures.stands version s stands)
