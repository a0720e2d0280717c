use Rattle.std.proofs.Common.{rules, ◌≡◌, ℕ, List, subst, sym}
use Rattle.std.specs.Prelude.{Result, Err, IfErr}
use Rattle.rq_model.specs.StateSpelling.{carried_next}
use Rattle.rq_model.specs.Carrying.{carried_at}
use Rattle.rq_record.specs.declared.fault.Fault.{Fault}
use Rattle.rq_judged.specs.Checkpoints.{IsBegun}
use Rattle.rq_judged.specs.Refusals.{RefusedCarried}
use Rattle.rq_follow.specs.declared.beginning.Coming.{Coming}
use Rattle.rq_follow.specs.Followers.{IsReadSo, RefusesBytes}
use Rattle.rq_follow.proofs.Beginnings.{carried_begun, refuses_read}
use Rattle.rq_follow.proofs.beginning.begun_carried.Goals as goal

pub returns-in_err-from-clause-refused : goal.returns-in_err-from-clause-refused
returns-in_err-from-clause-refused g c =
    let w = c.args.bytes.items in
    let e = c.in_err-from.field-0.0 in
    let answer : c.from_residual.result ≡ Err e = search rules in
    subst (λ (r : Result Coming Fault). IfErr r (λ f. (b : List ℕ) → IsReadSo b w → RefusesBytes b f)) (sym answer)
    (λ b is. refuses_read c.carried_headers.ensures.read b w e is
    (subst (λ (z : List ℕ). RefusedCarried z carried_at e) c.deref.ensures.value c.in_err-from.ensures))

pub returns-clause-stage : goal.returns-clause-stage
returns-clause-stage g c = λ b is.
    carried_begun c.versions.ensures.header c.carried_headers.ensures.read b c.args.bytes.items c.in_ok-from.from
    c.in_ok-machine.machine c.in_ok-pass.pass is
    (subst (λ (z : List ℕ). IsBegun carried_next z carried_at c.in_ok-from.from) c.deref.ensures.value
    c.in_ok-from.ensures)
    c.in_ok-machine.ensures.made c.in_ok-pass.ensures.fed
