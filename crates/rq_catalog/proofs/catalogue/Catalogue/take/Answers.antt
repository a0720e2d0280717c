use Rattle.std.proofs.Common.{sym, subst}
use Rattle.rq_model.specs.States.{State}
use Rattle.rq_model.specs.Machine.{step}
use Rattle.rq_record.specs.declared.record.RecordOf.TheVariants.{Abort}
use Rattle.rq_record.specs.Views.{Record, record_of}
use Rattle.rq_catalog.specs.Grounds.{AreGroundsOf}
use Rattle.rq_catalog.specs.Catalogues.{Takes}
use Rattle.rq_catalog.proofs.Knowing.{on_ok}
use Rattle.rq_catalog.proofs.Aborts.{takes_abort}
use Rattle.rq_catalog.proofs.catalogue.Catalogue.take.Goals as goal

pub returns-in-Abort-clause-takes : goal.returns-in-Abort-clause-takes
returns-in-Abort-clause-takes c =
    let old = c.args.self.now in
    let h = c.advance.new.self in
    let knows : (s : State) → AreGroundsOf old.grounds s → AreGroundsOf h (step s (record_of (Abort c.in-Abort.unit))) =
    subst (λ (r : Record). (s : State) → AreGroundsOf old.grounds s → AreGroundsOf h (step s (record_of r)))
    c.in-Abort.is c.in_ok-advance.ensures.knows in
    on_ok c.abort.result (λ (t : Takes (record old { grounds = h }) c.abort.new.self c.args.op (Abort c.in-Abort.unit)).
    subst (Takes old c.abort.new.self c.args.op) (sym c.in-Abort.is)
    (takes_abort old c.abort.new.self h c.args.op c.in-Abort.unit knows t)) c.abort.ensures.takes
