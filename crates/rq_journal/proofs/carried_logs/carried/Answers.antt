use Rattle.std.proofs.Common.{◌≡◌, ◌<◌, ◌≤◌, ℕ, List, subst, sym, rules, arith}
use Rattle.std.specs.Prelude.{Result, Ok, Err, IfOk}
use Rattle.std.proofs.lemmas.Bool.Decides.{nat_tests}
use Rattle.rq_model.specs.StateSpelling.{carried_next}
use Rattle.std.specs.Global.{Vec}
use Rattle.rq_record.specs.declared.fault.Fault.{Fault}
use Rattle.rq_record.specs.Views.{version_of}
use Rattle.rq_journal.specs.Carries.{BeginsFile, Carries, CarriesAgain}
use Rattle.rq_journal.proofs.CarriedOn.{carries, not_carried, unnumbered}
use Rattle.rq_journal.proofs.CarriedAgain.{carries_again, no_checkpoint, no_number}
use Rattle.rq_journal.proofs.carried_logs.carried.Goals as goal

number_if : (r : Result (Vec ℕ) Fault) (next : ℕ) → next < carried_next → IfOk r (λ made. next < carried_next)
number_if (Ok made) next low = low
number_if (Err e) next low = tt

pub returns-then-next-ge-CARRIED_RECORDS-clause-carries : goal.returns-then-next-ge-CARRIED_RECORDS-clause-carries
returns-then-next-ge-CARRIED_RECORDS-clause-carries c = λ b h.
    let high = c.if-next-ge-CARRIED_RECORDS.true in
    unnumbered b c.args.front.now c.fronts_are_spelt.ensures h (grind (arith, nat_tests, c.next.ensures.next, high))

pub returns-then-next-ge-CARRIED_RECORDS-clause-again : goal.returns-then-next-ge-CARRIED_RECORDS-clause-again
returns-then-next-ge-CARRIED_RECORDS-clause-again c = λ b h.
    let high = c.if-next-ge-CARRIED_RECORDS.true in
    no_number b c.args.front.now h (grind (arith, nat_tests, c.next.ensures.next, high))

pub returns-in_err-body : goal.returns-in_err-body
returns-in_err-body c =
    let f = c.args.front.now in
    let e = c.in_err-body.field-0.0 in
    let answer : c.from_residual.result ≡ Err e = search rules in
    record {
      carries = λ b h. subst (λ (r : Result (Vec ℕ) Fault). Carries b r) (sym answer)
          (not_carried b f e c.fronts_are_spelt.ensures h c.in_err-body.ensures);
      again = λ b h. subst (λ (r : Result (Vec ℕ) Fault). CarriesAgain b r) (sym answer)
          (no_checkpoint b f h e c.in_err-body.ensures);
      number = subst (λ (r : Result (Vec ℕ) Fault). IfOk r (λ made. f.state.next < carried_next)) (sym answer) tt;
    }

pub returns : goal.returns
returns c =
    let f = c.args.front.now in
    let body = c.in_ok-body.body.items in
    let low = c.if-next-ge-CARRIED_RECORDS.false in
    let begun = subst (λ (z : List ℕ). BeginsFile (version_of f.version) f.last z c.begun.result) c.deref.ensures.value
    c.begun.ensures in
    record {
      carries = λ b h. carries b f body h c.in_ok-body.ensures.1 c.begun.result c.fronts_are_spelt.ensures
          c.logs_begun_anew.ensures.starts c.carried_headers.ensures.apart c.carried_headers.ensures.read
          c.logs_begun_anew.ensures.join begun;
      again = λ b h. carries_again b f h body c.in_ok-body.ensures.0 c.in_ok-body.ensures.1 c.begun.result
          c.one_spelling.ensures.state c.logs_begun_anew.ensures.starts c.carried_headers.ensures.apart
          c.carried_headers.ensures.read c.continued_logs.ensures.join begun;
      number = number_if c.begun.result f.state.next (grind (arith, nat_tests, c.next.ensures.next, low));
    }
