use Rattle.std.proofs.Common.{arith, subst, sym, ◌∙◌}
use Rattle.std.specs.Prelude.{Bool, IsTrue, ◌↔◌}
use Rattle.rq_record.specs.Views.{version_of}
use Rattle.rq_behind.specs.Runs.{SpellsSome}
use Rattle.rq_behind.proofs.Ends.{spells_exactly}
use Rattle.rq_behind.proofs.forms.spells_some.Goals as goal

pub returns : goal.returns
returns c =
    subst (λ (t : Bool). IsTrue t ↔ SpellsSome (version_of c.args.version) c.args.body.now)
    (sym (c.is_some.ensures ∙ c.record.ensures))
    (spells_exactly (version_of c.args.version) c.args.body.now (λ i. omega (arith, c.type_inv.body i)))
