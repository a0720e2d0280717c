use Rattle.std.proofs.Common.{◌≡◌, ℕ, List, cond, true, refl, sym, subst, OnOk}
use Rattle.rq_model.specs.States.{State}
use Rattle.rq_model.specs.Machine.{step}
use Rattle.rq_record.specs.Views.{Record, record_of}
use Rattle.rq_catalog.specs.declared.grounds.Grounds.{Grounds}
use Rattle.rq_catalog.specs.Grounds.{AreGroundsOf, key_eq, is_registered_in}
use Rattle.rq_catalog.proofs.Knowing.{registers, deregisters, quiet, on_ok}
use Rattle.rq_catalog.proofs.grounds.Grounds.advance.Goals as goal

pub returns-in-Register-clause-knows : goal.returns-in-Register-clause-knows
returns-in-Register-clause-knows c =
    let new : Grounds = record c.args.self.now { registrants = c.register.new.self } in
    let queue = c.in-Register.queue.0 in
    let name : List ℕ = c.in-Register.name in
    let after : ((k : ℕ × List ℕ) → is_registered_in new.registrants k
    ≡ cond (key_eq (queue, name) k) true (is_registered_in c.args.self.now.registrants k))
    → (s : State) → AreGroundsOf c.args.self.now s → AreGroundsOf new (step s (record_of c.args.next.now)) = λ more s knows.
    subst (λ (r : Record). AreGroundsOf new (step s (record_of r))) (sym c.in-Register.is)
    (registers c.args.self.now new s knows queue name refl more) in
    on_ok c.register.result after
    (subst (λ (m : List ℕ). OnOk c.register.result ((k : ℕ × List ℕ) → is_registered_in new.registrants k
    ≡ cond (key_eq (queue, m) k) true (is_registered_in c.args.self.now.registrants k)))
    c.name-in-Register.ensures c.register.ensures.registered)

pub returns-in-Deregister-clause-knows : goal.returns-in-Deregister-clause-knows
returns-in-Deregister-clause-knows c = λ s knows.
    let new : Grounds = record c.args.self.now { registrants = c.deregister.new.self } in
    subst (λ (r : Record). AreGroundsOf new (step s (record_of r))) (sym c.in-Deregister.is)
    (deregisters c.args.self.now new s knows c.in-Deregister.queue.0 c.in-Deregister.name refl c.deregister.ensures)

pub returns-in_default : goal.returns-in_default
returns-in_default c = record {
  knows = λ s knows. quiet c.args.self.now s c.args.next.now c.in_default.not-Define c.in_default.not-Register
      c.in_default.not-Deregister c.in_default.not-Begin knows;
  refused = tt;
  kept = tt;
}
