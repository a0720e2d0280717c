use Rattle.std.proofs.Common.{IfSome, refl, subst}
use Rattle.rq_model.specs.Records.{Version}
use Rattle.rq_record.specs.Views.{record_of}
use Rattle.rq_lawful.specs.Breaks.{Breaks}
use Rattle.rq_catalog.proofs.judge.Judge.broken.Goals as goal

pub returns-clause-which : goal.returns-clause-which
returns-clause-which c = λ version s stands.
    subst (λ (v : Version). IfSome c.broken.result (Breaks v s (record_of c.args.next.now))) stands.rules
    (c.broken.ensures.which s (record { rules = refl; knows = stands.knows; units = stands.units }))
