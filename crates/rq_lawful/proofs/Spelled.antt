-- The rules that a record breaks, by its kind.
use Rattle.std.proofs.Common.{◌≡◌, Option, IfSome, sym, subst}
use Rattle.rq_model.specs.Records as model
use Rattle.rq_model.specs.States.{State}
use Rattle.rq_record.specs.Views.{Record, record_of}
use Rattle.rq_lawful.specs.declared.rules.Rule.{Rule}
use Rattle.rq_lawful.specs.Breaks.{Breaks}

-- what is broken by the kind that the record is, the record breaks
pub breaks_spelled : (told : Option Rule) (version : model.Version) (s : State) (r is : Record)
    → r ≡ is → IfSome told (Breaks version s (record_of is)) → IfSome told (Breaks version s (record_of r))
breaks_spelled told version s r is same broken =
    subst (λ (x : Record). IfSome told (Breaks version s (record_of x))) (sym same) broken
