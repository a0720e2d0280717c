use Rattle.std.proofs.Common.{◌≡◌, ◌∙◌, ℕ, cond, false, nat_eq, ap, sym, subst, rules}
use Rattle.std.specs.Prelude.{◌==◌}
use Rattle.std.specs.List.{list_any}
use Rattle.std.specs.Ordering.{nat_cmp}
use Rattle.std.specs.BTreeSet.{contains}
use Rattle.rq_model.specs.Records.{Version}
use Rattle.rq_model.specs.States.{State}
use Rattle.rq_model.specs.Machine.{step}
use Rattle.rq_record.specs.Views.{Record, record_of}
use Rattle.rq_catalog.specs.declared.judge.Judge.{Judge}
use Rattle.rq_catalog.specs.Grounds.{AreGroundsOf, KeepsKnowing}
use Rattle.rq_catalog.specs.Judges.{StandsIn, KeepsStanding}
use Rattle.rq_catalog.proofs.Knowing.{commits, aborts, closed_step, same_units, on_ok, on_err}
use Rattle.rq_catalog.proofs.judge.Judge.advance.Goals as goal

pub returns-in-Commit-clause-stands : goal.returns-in-Commit-clause-stands
returns-in-Commit-clause-stands c = λ version s stands.
    let j : Judge = c.args.self.now in
    let new : Judge = record j { units = c.remove.new.self } in
    let unit = c.in-Commit.unit.0 in
    let gone : (u : ℕ) → contains nat_cmp c.remove.new.self u
    ≡ cond (nat_eq unit u) false (contains nat_cmp j.units u) = λ u. search rules in
    subst (λ (r : Record). StandsIn version new (step s (record_of r))) (sym c.in-Commit.is) (record {
      rules = stands.rules;
      knows = commits j.grounds s unit stands.knows;
      units = λ u. gone u ∙ ap (cond (nat_eq unit u) false) (stands.units u) ∙ closed_step unit u s.units;
    })

pub returns-in-Abort-clause-stands : goal.returns-in-Abort-clause-stands
returns-in-Abort-clause-stands c = λ version s stands.
    let j : Judge = c.args.self.now in
    let new : Judge = record j { units = c.remove-in-Abort.new.self } in
    let unit = c.in-Abort.unit.0 in
    let gone : (u : ℕ) → contains nat_cmp c.remove-in-Abort.new.self u
    ≡ cond (nat_eq unit u) false (contains nat_cmp j.units u) = λ u. search rules in
    subst (λ (r : Record). StandsIn version new (step s (record_of r))) (sym c.in-Abort.is) (record {
      rules = stands.rules;
      knows = aborts j.grounds s unit stands.knows;
      units = λ u. gone u ∙ ap (cond (nat_eq unit u) false) (stands.units u) ∙ closed_step unit u s.units;
    })

pub returns-in_default : goal.returns-in_default
returns-in_default c =
    let j : Judge = c.args.self.now in
    let new : Judge = record j { grounds = c.advance.new.self } in
    let after : ((s : State) → AreGroundsOf j.grounds s → AreGroundsOf c.advance.new.self (step s (record_of c.args.next.now)))
    → (version : Version) (s : State) → StandsIn version j s
    → StandsIn version new (step s (record_of c.args.next.now)) = λ knows version s stands. record {
      rules = stands.rules;
      knows = knows s stands.knows;
      units = λ u. stands.units u ∙ ap (list_any (λ v. v == u))
          (same_units s c.args.next.now c.in_default.not-Begin c.in_default.not-Commit c.in_default.not-Abort);
    } in
    let before : KeepsKnowing j.grounds c.advance.new.self → KeepsStanding j new = λ keeps version s stands.
    record { rules = stands.rules; knows = keeps s stands.knows; units = stands.units } in record {
      stands = on_ok c.advance.result after c.advance.ensures.knows;
      refused = c.advance.ensures.refused;
      kept = on_err c.advance.result before c.advance.ensures.kept;
    }
