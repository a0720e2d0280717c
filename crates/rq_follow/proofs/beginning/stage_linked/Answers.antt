use Rattle.std.proofs.Common.{rules, ◌≡◌, ℕ, List, subst, sym, arith}
use Rattle.std.specs.Prelude.{Result, Err, IfErr}
use Rattle.rq_record.specs.declared.fault.Fault.{Fault}
use Rattle.rq_front.specs.Chains.{Refused}
use Rattle.rq_follow.specs.declared.beginning.Coming.{Coming}
use Rattle.rq_follow.specs.Followers.{IsReadSo, RefusesBytes}
use Rattle.rq_follow.proofs.Beginnings.{refuses_frames, too_short}
use Rattle.rq_follow.proofs.beginning.stage_linked.Goals as goal

pub returns-then-len-lt-CARRIED_AT-clause-stage : goal.returns-then-len-lt-CARRIED_AT-clause-stage
returns-then-len-lt-CARRIED_AT-clause-stage g c = λ b is.
    too_short b c.args.bytes.items is (omega (arith, c.if-len-lt-CARRIED_AT.true, c.len.ensures, c.args.bytes.ok.0))

pub returns-in_err-found-clause-refused : goal.returns-in_err-found-clause-refused
returns-in_err-found-clause-refused g c =
    let w = c.args.bytes.items in
    let e = c.in_err-found.field-0.0 in
    let answer : c.from_residual.result ≡ Err e = search rules in
    subst (λ (r : Result Coming Fault). IfErr r (λ f. (b : List ℕ) → IsReadSo b w → RefusesBytes b f)) (sym answer)
    (λ b is. refuses_frames c.carried_headers.ensures.read b w e is
    (subst (λ (z : List ℕ). Refused z e) c.deref.ensures.value c.in_err-found.ensures.refused))
