use Rattle.std.proofs.Common.{ap, sym, arith}
use Rattle.std.specs.Prelude.{option_map}
use Rattle.std.proofs.lemmas.Bool.{ltb-true}
use Rattle.rq_catalog.specs.BegunUnits.{BegunUnit}
use Rattle.rq_catalog.proofs.Rising.{all_before, at_index}
use Rattle.rq_catalog.proofs.units.search_from.Goals as goal

pub returns-in-Some-clause-before : goal.returns-in-Some-clause-before
returns-in-Some-clause-before c =
    let look = c.in-Some.ensures.lookup in
    all_before _ _ _ _ c.requires (ap (option_map (λ (u : BegunUnit). u.number))
    (at_index _ _ _ _ (ltb-true _ _ (sym look.0)) look.1)) (omega arith)
